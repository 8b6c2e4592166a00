-- What it is for two entries to be the same.
use Rattle.std.proofs.Common.{◌≡◌, ℕ, Bool, true, false, refl, List, [], ◌∷◌, map, ap, ap₂, sym, ◌&&◌, nat_eq, ◌∙◌}
use Rattle.std.specs.Bool.{Decides}
use Rattle.std.specs.Map.{keys_of}
use Rattle.std.specs.Str.{bytes_eq}
use Rattle.std.proofs.lemmas.Slice.Eq.{bytes_eq-Decides}
use Rattle.std.proofs.lemmas.Bool.Decides.{Decides-eqb}
use Rattle.gd_units.specs.declared.service.Kind.{Kind}
use Rattle.gd_units.specs.declared.service.Kind.TheVariants.{Receipt, Delivery}
use Rattle.gd_units.specs.contracts.service.KindPartialEq.TheImpl as kind
use Rattle.gd_system.specs.declared.part.Point.{Point}
use Rattle.gd_system.specs.declared.part.Pool.{Pool}
use Rattle.gd_system.specs.declared.part.Ends.{Ends}
use Rattle.gd_system.specs.contracts.part.PointPartialEq.TheImpl as point
use Rattle.gd_system.specs.contracts.part.PoolPartialEq.TheImpl as pool
use Rattle.gd_system.specs.contracts.part.EndsPartialEq.TheImpl as ends

-- a test of both decides what holds exactly where both do
pub both : {P Q R : Type 0} (x y : Bool) → Decides x P → Decides y Q → (P → Q → R) → (R → P) → (R → Q) → Decides (x && y) R
both true true p q made first second = (λ e. made (p.0 refl) (q.0 refl), λ r. refl)
both true false p q made first second = (λ e. cc, λ r. let bad = q.1 (second r) in cc)
both false y p q made first second = (λ e. cc, λ r. let bad = p.1 (first r) in cc)

-- a test that tells receipt from delivery decides which kind it is
kinds : (same : Kind → Kind → Bool) → same Receipt Receipt ≡ true → same Receipt Delivery ≡ false → same Delivery Receipt ≡ false → same Delivery Delivery ≡ true
    → (a b : Kind) → Decides (same a b) (a ≡ b)
kinds same rr rd dr dd Receipt Receipt = (λ e. refl, λ r. rr)
kinds same rr rd dr dd Receipt Delivery = (λ e. let bad = sym rd ∙ e in cc, λ r. cc)
kinds same rr rd dr dd Delivery Receipt = (λ e. let bad = sym dr ∙ e in cc, λ r. cc)
kinds same rr rd dr dd Delivery Delivery = (λ e. refl, λ r. dd)

operated : (a b : List ℕ) (m n : ℕ) → Decides (bytes_eq a b && nat_eq m n) ((a ≡ b) × (m ≡ n))
operated a b m n = both _ _ (bytes_eq-Decides a b) (Decides-eqb m n) (λ p q. (p, q)) (λ r. r.0) (λ r. r.1)

abbrev point_of : Kind → ℕ → List ℕ → ℕ → Point
point_of kind place operator capacity = record { kind = kind; place = record { 0 = place }; operator = operator; capacity = capacity }

same_point : (j k : Kind) (m n : ℕ) (x y : List ℕ) (c d : ℕ) → j ≡ k → m ≡ n → x ≡ y → c ≡ d → point_of j m x c ≡ point_of k n y d
same_point j k m n x y c d p q r s =
    ap (λ (v : Kind). point_of v m x c) p ∙ ap (λ (v : ℕ). point_of k v x c) q ∙ ap (λ (v : List ℕ). point_of k n v c) r ∙ ap (λ (v : ℕ). point_of k n y v) s

placed : (a b : Point) → Decides (nat_eq a.place.0 b.place.0 && (bytes_eq a.operator b.operator && nat_eq a.capacity b.capacity))
    ((a.place.0 ≡ b.place.0) × (a.operator ≡ b.operator) × (a.capacity ≡ b.capacity))
placed a b = both _ _ (Decides-eqb a.place.0 b.place.0) (operated a.operator b.operator a.capacity b.capacity) (λ p q. (p, q.0, q.1)) (λ r. r.0) (λ r. (r.1, r.2))

pub points_decided : (a b : Point) → Decides (point.eq-value.it a b) (a ≡ b)
points_decided a b =
    both _ _ (kinds kind.eq-value.it refl refl refl refl a.kind b.kind) (placed a b) (λ p q. same_point _ _ _ _ _ _ _ _ p q.0 q.1 q.2)
    (λ r. ap (λ (v : Point). v.kind) r) (λ r. (ap (λ (v : Point). v.place.0) r, ap (λ (v : Point). v.operator) r, ap (λ (v : Point). v.capacity) r))

pub pools_decided : (a b : Pool) → Decides (pool.eq-value.it a b) (a ≡ b)
pools_decided a b =
    both _ _ (Decides-eqb a.place.0 b.place.0) (bytes_eq-Decides a.operator b.operator)
    (λ p q. ap₂ (λ (x : ℕ) (y : List ℕ). let v : Pool = record { place = record { 0 = x }; operator = y } in v) p q)
    (λ r. ap (λ (v : Pool). v.place.0) r) (λ r. ap (λ (v : Pool). v.operator) r)

pub entries_decided : {V : Type 0} {E : V → V → Bool} → ((a b : V) → Decides (E a b) (a ≡ b)) → (a b : List ℕ × V) → Decides (bytes_eq a.0 b.0 && E a.1 b.1) (a ≡ b)
entries_decided value a b =
    both _ _ (bytes_eq-Decides a.0 b.0) (value a.1 b.1) (λ p q. ap₂ (λ (x : List ℕ) (y : _). (x, y)) p q) (λ r. ap (λ v. v.0) r) (λ r. ap (λ v. v.1) r)

pub units_decided : (a b : Unit {0}) → Decides true (a ≡ b)
units_decided a b = (λ e. refl, λ r. refl)

refill : (es : List (List ℕ × Unit {0})) → map (λ k. (k, tt)) (keys_of es) ≡ es
refill [] = refl
refill (x ∷ es) = ap (λ l. x ∷ l) (refill es)

-- names alone make the entries that hold nothing else
pub same_keys : (es fs : List (List ℕ × Unit {0})) → keys_of es ≡ keys_of fs → es ≡ fs
same_keys es fs e = sym (refill es) ∙ ap (map (λ k. (k, tt))) e ∙ refill fs

numbered : (k m n o : ℕ) → Decides (nat_eq k m && nat_eq n o) ((k ≡ m) × (n ≡ o))
numbered k m n o = both _ _ (Decides-eqb k m) (Decides-eqb n o) (λ p q. (p, q)) (λ r. r.0) (λ r. r.1)

abbrev ends_from : ℕ → ℕ → ℕ → ℕ → Ends
ends_from origin dest from to = record { origin = record { 0 = origin }; dest = record { 0 = dest }; origin_place = record { 0 = from }; dest_place = record { 0 = to } }

pub same_ends : (a b : Ends) → a.origin.0 ≡ b.origin.0 → a.dest.0 ≡ b.dest.0 → a.origin_place.0 ≡ b.origin_place.0 → a.dest_place.0 ≡ b.dest_place.0 → a ≡ b
same_ends a b p q r s =
    ap (λ (n : ℕ). ends_from n a.dest.0 a.origin_place.0 a.dest_place.0) p ∙ ap (λ (n : ℕ). ends_from b.origin.0 n a.origin_place.0 a.dest_place.0) q
    ∙ ap (λ (n : ℕ). ends_from b.origin.0 b.dest.0 n a.dest_place.0) r ∙ ap (λ (n : ℕ). ends_from b.origin.0 b.dest.0 b.origin_place.0 n) s

hung : (a b : Ends) → Decides (nat_eq a.dest.0 b.dest.0 && (nat_eq a.origin_place.0 b.origin_place.0 && nat_eq a.dest_place.0 b.dest_place.0))
    ((a.dest.0 ≡ b.dest.0) × (a.origin_place.0 ≡ b.origin_place.0) × (a.dest_place.0 ≡ b.dest_place.0))
hung a b =
    both _ _ (Decides-eqb a.dest.0 b.dest.0) (numbered a.origin_place.0 b.origin_place.0 a.dest_place.0 b.dest_place.0) (λ p q. (p, q.0, q.1)) (λ r. r.0) (λ r. (r.1, r.2))

pub ends_decided : (a b : Ends) → Decides (ends.eq-value.it a b) (a ≡ b)
ends_decided a b =
    both _ _ (Decides-eqb a.origin.0 b.origin.0) (hung a b) (λ p q. same_ends a b p q.0 q.1 q.2)
    (λ r. ap (λ (v : Ends). v.origin.0) r) (λ r. (ap (λ (v : Ends). v.dest.0) r, ap (λ (v : Ends). v.origin_place.0) r, ap (λ (v : Ends). v.dest_place.0) r))
