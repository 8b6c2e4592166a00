-- Whether rows build a value is the same whatever the number of the first row.
use Rattle.std.proofs.Common.{◌≡◌, ℕ, ◌+◌, Bool, List, [], ◌∷◌, Result, Ok, Err, refl, ◌∙◌, ap}
use Rattle.std.specs.Result.{is_ok}
use Rattle.std.specs.Prelude.{ℤ, Option, Some, None, if◌then◌else◌, true, false, set, get_or, nat_le, nat_lt, ◌&&◌, length, ◌-◌}
use Rattle.gd_system.specs.Pipeline.{Pipeline, elements_of, element_number, number_of}
use Rattle.gd_certificate.specs.Cutting.{Members}
use Rattle.gd_text_part.specs.Rows.{◌>>=◌}
use Rattle.gd_text_part.specs.declared.fault.Cause.TheVariants as cause
use Rattle.gd_text_part.specs.declared.fault.TextFault.{TextFault}
use Rattle.gd_text_part.specs.declared.fault.TextFault.TheVariants as fault
use Rattle.gd_text_part.specs.declared.row.Member.{Member}
use Rattle.gd_text_part.specs.declared.row.Member.TheVariants as member
use Rattle.gd_text_part.specs.declared.row.Row.{Row}
use Rattle.gd_text_part.specs.declared.row.Row.TheVariants as row
use Rattle.gd_text.specs.Building.{built_from}
use Rattle.gd_text.specs.Members.{member_step, with_member, with_place, with_point, with_pool, members_from, members_of, none_inside}
use Rattle.gd_text.specs.Prices.{Table, price_step, price_at, given_at, place, prices_from, prices_of, no_prices}

-- the same value, or two refusals
abbrev pub Alike : {X : Type 0} → Result X TextFault → Result X TextFault → Type 0
Alike (Ok x) (Ok y) = x ≡ y
Alike (Ok x) (Err f) = ⊥
Alike (Err e) (Ok y) = ⊥
Alike (Err e) (Err f) = Unit {0}

module _ {X : Type 0} (step : ℕ → X → Row → Result X TextFault) (alike : (n m : ℕ) (x : X) (r : Row) → Alike (step n x r) (step m x r)) where
  pub whatever : (n m : ℕ) (x : X) (rows : List Row) → is_ok (built_from step n x rows) ≡ is_ok (built_from step m x rows)
  unfolding built_from
  whatever n m x [] = refl
  whatever n m x (r ∷ rows) = go (step n x r) (step m x r) (alike n m x r) (λ y. whatever (n + 1) (m + 1) y rows)
    where
      go : (a b : Result X TextFault) → Alike a b → ((y : X) → is_ok (built_from step (n + 1) y rows) ≡ is_ok (built_from step (m + 1) y rows))
          → is_ok (a >>= λ y. built_from step (n + 1) y rows) ≡ is_ok (b >>= λ y. built_from step (m + 1) y rows)
      go (Ok y) (Ok z) e h = h y ∙ ap (λ (w : X). is_ok (built_from step (m + 1) w rows)) e
      go (Err e) (Err f) u h = refl
      go (Ok y) (Err f) e h = absurd e
      go (Err f) (Ok y) e h = absurd e

abbrev with_price : Table → ℕ → ℕ → ℤ → ℤ → Table
with_price t e class word spread = record t { words = set t.words (place e class) word; spreads = set t.spreads (place e class) spread; given = set t.given (place e class) true }

given_alike : (n m : ℕ) (t : Table) (e class : ℕ) (word spread : ℤ) → Alike (given_at n t e class word spread) (given_at m t e class word spread)
given_alike n m t e class word spread = choose (get_or t.given (place e class) false)
  where
    choose : (b : Bool)
        → Alike (if b then Err (fault.Row n cause.Duplicate) else Ok (with_price t e class word spread)) (if b then Err (fault.Row m cause.Duplicate) else Ok (with_price t e class word spread))
    choose true = tt
    choose false = refl

price_alike : (n m : ℕ) (t : Table) (found : Option ℕ) (class : ℕ) (word spread : ℤ) → Alike (price_at n t found class word spread) (price_at m t found class word spread)
price_alike n m t None class word spread = tt
price_alike n m t (Some e) class word spread = given_alike n m t e class word spread

price_step_alike : (p : Pipeline) (n m : ℕ) (t : Table) (r : Row) → Alike (price_step p n t r) (price_step p m t r)
price_step_alike p n m t (row.Price element class word spread) = price_alike n m t (element_number p element) class word spread
price_step_alike p n m t r = refl

place_alike : (n k : ℕ) (m : Members) (found : Option ℕ) → Alike (with_place n m found) (with_place k m found)
place_alike n k m None = tt
place_alike n k m (Some e) = refl

either : (b : Bool) (n k : ℕ) (m : Members) → Alike (if b then Ok m else Err (fault.Row n cause.UnknownElement)) (if b then Ok m else Err (fault.Row k cause.UnknownElement))
either true n k m = refl
either false n k m = tt

point_alike : (p : Pipeline) (n k : ℕ) (m : Members) (found : Option ℕ) → Alike (with_point n p m found) (with_point k p m found)
point_alike p n k m None = tt
point_alike p n k m (Some e) = either (nat_le (length p.tree) e && nat_lt e (length p.tree + length p.points)) n k (record m { points = set m.points (e - length p.tree) true })

pool_alike : (p : Pipeline) (n k : ℕ) (m : Members) (found : Option ℕ) → Alike (with_pool n p m found) (with_pool k p m found)
pool_alike p n k m None = tt
pool_alike p n k m (Some e) = either (nat_le (length p.tree + length p.points) e) n k (record m { pools = set m.pools (e - (length p.tree + length p.points)) true })

member_alike : (p : Pipeline) (n k : ℕ) (m : Members) (kind : Member) (name : List ℕ) → Alike (with_member n p m kind name) (with_member k p m kind name)
member_alike p n k m member.Place name = place_alike n k m (number_of p.places name)
member_alike p n k m member.Point name = point_alike p n k m (element_number p name)
member_alike p n k m member.Pool name = pool_alike p n k m (element_number p name)

member_step_alike : (p : Pipeline) (n k : ℕ) (m : Members) (r : Row) → Alike (member_step p n m r) (member_step p k m r)
member_step_alike p n k m (row.Inside kind name) = member_alike p n k m kind name
member_step_alike p n k m r = refl

pub prices_whatever : (p : Pipeline) (n : ℕ) (rows : List Row) → is_ok (prices_from n rows p) ≡ is_ok (prices_of rows p)
prices_whatever p n rows = whatever (price_step p) (price_step_alike p) n 1 (no_prices (length (elements_of p))) rows

pub members_whatever : (p : Pipeline) (n : ℕ) (rows : List Row) → is_ok (members_from n rows p) ≡ is_ok (members_of rows p)
members_whatever p n rows = whatever (member_step p) (member_step_alike p) n 1 (none_inside p) rows
