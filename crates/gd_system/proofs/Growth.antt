-- What is added keeps what holds of a pipeline in the making.
use Rattle.std.proofs.Common.{◌≡◌, ℕ, ◌+◌, ◌<◌, ◌≤◌, Bool, true, false, List, [], ◌∷◌, ◌++◌, length, Option, Some, None, Result, Ok, Err, refl, sym, ap, subst, ◌∙◌, arith}
use Rattle.std.proofs.lemmas.Bool.{eqb-true}
use Rattle.std.proofs.lemmas.List.{length-append}
use Rattle.std.proofs.lemmas.List.Elements.{All-push}
use Rattle.std.proofs.lemmas.List.Folds.{list_any-append}
use Rattle.std.proofs.lemmas.Map.Made.{is_some-lookup}
use Rattle.std.specs.Cmp.Lexicographic.{bytes_decides}
use Rattle.std.specs.Map.{keys_of}
use Rattle.std.specs.Prelude.{if◌then◌else◌, ◌||◌, is_some, ◌==◌, MatchResult, All}
use Rattle.std.specs.Result.{is_err}
use Rattle.gd_table.proofs.Places.{is_some-position}
use Rattle.gd_rules.specs.Question.{Element}
use Rattle.gd_system.specs.Pipeline.{Pipeline, names_of, number_of, same_name}
use Rattle.gd_system.specs.Building.{joined, joined_within, checked_segment, known, entered}
use Rattle.gd_system.specs.Join.{later}
use Rattle.gd_system.proofs.Names.{new_parts}
use Rattle.gd_system.specs.Growing.{IsBuilt}
use Rattle.gd_system.specs.declared.BuildFault.TheVariants.{Duplicate}
use Rattle.gd_system.specs.declared.part.Point.{Point}
use Rattle.gd_system.specs.declared.part.Pool.{Pool}

-- what no refusal says
passed : (p : Pipeline) (name from to : List ℕ) (ends : ℕ × ℕ) → checked_segment p name from to ≡ Ok ends → (found : ℕ × ℕ) × (joined p from to ≡ Some found)
passed p name from to ends h = go (known (names_of p) name) (joined p from to) h refl
  where
    go : (k : Bool) (j : Option (ℕ × ℕ)) → (if k then Err Duplicate else joined_within (length p.tree) j) ≡ Ok ends → joined p from to ≡ j → (found : ℕ × ℕ) × (joined p from to ≡ Some found)
    go true j h e = cc
    go false None h e = cc
    go false (Some found) h e = (found, e)

pub passes_new : (p : Pipeline) (name from to : List ℕ) (ends : ℕ × ℕ) → checked_segment p name from to ≡ Ok ends → known p.segments name ≡ false
passes_new p name from to ends h = go (known (names_of p) name) refl h
  where
    go : (k : Bool) → known (names_of p) name ≡ k → (if k then Err Duplicate else joined_within (length p.tree) (joined p from to)) ≡ Ok ends → known p.segments name ≡ false
    go true e h = cc
    go false e h = (new_parts p name e).0

keyed : List (List ℕ) → List (List ℕ × ℕ)
keyed [] = []
keyed (x ∷ xs) = (x, 0) ∷ keyed xs

keyed_keys : (xs : List (List ℕ)) → keys_of (keyed xs) ≡ xs
unfolding keyed
keyed_keys [] = refl
keyed_keys (x ∷ xs) = ap (λ l. x ∷ l) (keyed_keys xs)

found_known : (names : List (List ℕ)) (name : List ℕ) → is_some (number_of names name) ≡ known names name
found_known names name =
    sym (ap (λ l. is_some (number_of l name)) (keyed_keys names)) ∙ is_some-position (same_name name) (keyed names) ∙ is_some-lookup (same_name name) (keyed names) ∙ ap (λ l. known l name) (keyed_keys names)

mirrored : (a b : List ℕ) → same_name a b ≡ false → same_name b a ≡ false
mirrored a b h = go (same_name b a) refl
  where
    go : (v : Bool) → same_name b a ≡ v → same_name b a ≡ false
    go true e = let yes : same_name a b ≡ true = (bytes_decides a b).1 (sym ((bytes_decides b a).0 e)) in cc
    go false e = e

pub entered_known : (names : List (List ℕ)) (name : List ℕ) → known names name ≡ true → entered names name ≡ names
entered_known names name h = ap (λ (v : Bool). if v then names else names ++ name ∷ []) h

pub entered_new : (names : List (List ℕ)) (name : List ℕ) → known names name ≡ false → entered names name ≡ names ++ name ∷ []
entered_new names name h = ap (λ (v : Bool). if v then names else names ++ name ∷ []) h

known_more : (names : List (List ℕ)) (a b : List ℕ) → known names b ≡ true → known (names ++ a ∷ []) b ≡ true
known_more names a b h = list_any-append (same_name b) names (a ∷ []) ∙ ap (λ v. v || known (a ∷ []) b) h

pub length_push : {X : Type 0} (xs : List X) (x : X) → length (xs ++ x ∷ []) ≡ length xs + 1
length_push xs x = length-append xs (x ∷ [])

empty : (xs : List (List ℕ)) → length xs ≡ 0 → xs ≡ []
empty [] h = refl
empty (x ∷ xs) h = absurd (omega arith)

-- the first segment brings two places
first_two : (places : List (List ℕ)) (from to : List ℕ) → length places ≡ 0 → same_name from to ≡ false → length (entered (entered places from) to) ≡ 2
first_two places from to h s =
    ap (λ l. length (entered (entered l from) to)) (empty places h)
    ∙ ap length (entered_new (from ∷ []) to (ap (λ v. v || false) (mirrored from to s)))

-- a later one brings one
one_more : (n : ℕ) (places : List (List ℕ)) (from to : List ℕ) (f t : Option ℕ) (found : ℕ × ℕ) → length places ≡ n + 1
    → known places from ≡ is_some f → known places to ≡ is_some t → later n f t ≡ Some found → length (entered (entered places from) to) ≡ n + 2
one_more n places from to (Some f) None found h a b e =
    ap (λ l. length (entered l to)) (entered_known places from a) ∙ ap length (entered_new places to b) ∙ length_push places to ∙ omega arith
one_more n places from to None (Some t) found h a b e =
    ap (λ l. length (entered l to)) (entered_new places from a) ∙ ap length (entered_known (places ++ from ∷ []) to (known_more places from to b)) ∙ length_push places from ∙ omega arith
one_more n places from to (Some f) (Some t) found h a b e = cc
one_more n places from to None None found h a b e = cc

counts : (p : Pipeline) (from to : List ℕ) (found : ℕ × ℕ) → length p.places ≡ (if length p.tree == 0 then 0 else length p.tree + 1) → joined p from to ≡ Some found
    → length (entered (entered p.places from) to) ≡ length p.tree + 2
counts p from to found h j = go (length p.tree == 0) (same_name from to) refl refl h j
  where
    go : (z s : Bool) → (length p.tree == 0) ≡ z → same_name from to ≡ s → length p.places ≡ (if z then 0 else length p.tree + 1)
        → (if z then (if s then None else Some (0, 1)) else later (length p.tree) (number_of p.places from) (number_of p.places to)) ≡ Some found
        → length (entered (entered p.places from) to) ≡ length p.tree + 2
    go true true e f h j = cc
    go true false e f h j = let none : length p.tree ≡ 0 = eqb-true (length p.tree) 0 e in first_two p.places from to h f ∙ omega arith
    go false s e f h j = one_more (length p.tree) p.places from to (number_of p.places from) (number_of p.places to) found h (sym (found_known p.places from)) (sym (found_known p.places to)) j

at_most : (p : Pipeline) → length p.places ≡ (if length p.tree == 0 then 0 else length p.tree + 1) → length p.places ≤ length p.tree + 1
at_most p h = go (length p.tree == 0) h
  where
    go : (z : Bool) → length p.places ≡ (if z then 0 else length p.tree + 1) → length p.places ≤ length p.tree + 1
    go true h = omega arith
    go false h = omega arith

placed_more : (k m n : ℕ) → k ≡ n + 2 → m ≡ n + 1 → k ≡ (if m == 0 then 0 else m + 1)
placed_more k m n h i = go (m == 0) refl
  where
    go : (v : Bool) → (m == 0) ≡ v → k ≡ (if v then 0 else m + 1)
    go true e = let z : m ≡ 0 = eqb-true m 0 e in absurd (omega arith)
    go false e = omega arith

pub pushed : {E : Type 0} (r : Result (Unit {0}) E) (new old : List Element) (x : Element) → MatchResult r (λ _. new ≡ old ++ x ∷ []) (λ _. new ≡ old) → is_err r ≡ false → new ≡ old ++ x ∷ []
pushed (Ok u) new old x h e = h
pushed (Err f) new old x h e = cc

-- a segment more
pub segment_kept : (p : Pipeline) (name from to : List ℕ) (ends : ℕ × ℕ) (places segments : List (List ℕ)) (tree : List Element) → IsBuilt p → checked_segment p name from to ≡ Ok ends → length p.tree < 4095
    → places ≡ entered (entered p.places from) to → length segments ≡ length p.segments + 1 → length tree ≡ length p.tree + 1
    → IsBuilt (record { places = places; segments = segments; tree = tree; points = p.points; pools = p.pools })
segment_kept p name from to ends places segments tree b passes few e s t =
    let found = passed p name from to ends passes in
    let two : length places ≡ length p.tree + 2 = ap length e ∙ counts p from to found.0 b.placed found.1 in
    let was : length p.places ≤ length p.tree + 1 = at_most p b.placed in
    let more : length p.places ≤ length places = omega arith in
    record {
      placed = placed_more (length places) (length tree) (length p.tree) two t;
      named = s ∙ ap (λ n. n + 1) b.named ∙ sym t;
      few_segments = omega arith;
      few_points = b.few_points;
      few_pools = b.few_pools;
      points_hung = λ k d h. let i = b.points_hung k d h in omega (arith, i);
      pools_hung = λ k d h. let i = b.pools_hung k d h in omega (arith, i);
    }

-- a point more
pub point_kept : (p : Pipeline) (points : List (List ℕ × Point)) (e : List ℕ × Point) → IsBuilt p → length p.points < 4096 → e.1.place.0 < length p.places → points ≡ p.points ++ e ∷ []
    → IsBuilt (record { places = p.places; segments = p.segments; tree = p.tree; points = points; pools = p.pools })
point_kept p points e b few h same =
    let more : length points ≡ length p.points + 1 = ap length same ∙ length_push p.points e in
    record {
      placed = b.placed;
      named = b.named;
      few_segments = b.few_segments;
      few_points = omega arith;
      few_pools = b.few_pools;
      points_hung = subst (All (λ x. x.1.place.0 < length p.places)) (sym same) (All-push (λ x. x.1.place.0 < length p.places) p.points e b.points_hung h);
      pools_hung = b.pools_hung;
    }

-- a pool more
pub pool_kept : (p : Pipeline) (pools : List (List ℕ × Pool)) (e : List ℕ × Pool) → IsBuilt p → length p.pools < 256 → e.1.place.0 < length p.places → pools ≡ p.pools ++ e ∷ []
    → IsBuilt (record { places = p.places; segments = p.segments; tree = p.tree; points = p.points; pools = pools })
pool_kept p pools e b few h same =
    let more : length pools ≡ length p.pools + 1 = ap length same ∙ length_push p.pools e in
    record {
      placed = b.placed;
      named = b.named;
      few_segments = b.few_segments;
      few_points = b.few_points;
      few_pools = omega arith;
      points_hung = b.points_hung;
      pools_hung = subst (All (λ x. x.1.place.0 < length p.places)) (sym same) (All-push (λ x. x.1.place.0 < length p.places) p.pools e b.pools_hung h);
    }
