-- What a line pays, by levels.
use Rattle.std.proofs.Common.{◌≡◌, ℕ, ◌^◌, List, refl, sym, ap, ◌∙◌, subst, arith, Bool, true}
use Rattle.std.specs.Prelude.{ℤ, pos, ◌+ℤ◌}
use Rattle.std.proofs.lemmas.Int.{ints}
use Rattle.gd_scale.specs.Scale.{Scale}
use Rattle.gd_scale.specs.Laws.{IsLawful, IsBounded}
use Rattle.gd_rules.specs.Question.{Element, Question, element, line, place_of}
use Rattle.gd_rules.specs.Question.Element.{Segment, Receipt, Delivery, Pool}
use Rattle.gd_rules.specs.Priced.{price, crossed}
use Rattle.gd_rules.specs.Tree.{IsLine}
use Rattle.gd_rules.proofs.LinePayments as Crossed
use Rattle.gd_tree.proofs.Levels.{crossed_by_levels}
use Rattle.gd_certificate.specs.Payments.{origin_price}
use Rattle.gd_certificate.specs.Levels.{HasLevels, level}

module _ {V : Type 0} (s : Scale V) (l : IsLawful s) where
  origin_same : (x : Element) (v : V) → Crossed.origin_pays s l x v ≡ origin_price s x v
  origin_same (Segment from to capacity) v = refl
  origin_same (Receipt place capacity) v = refl
  origin_same (Delivery place capacity) v = refl
  origin_same (Pool place) v = refl

  -- What a line pays is the difference of its places' levels, and what it pays at its origin and at its destination.
  pub paid_is : (within : ℤ → V → Bool) (q : Question) (places : ℕ) (prices levels : List V) (i : ℕ) → HasLevels s within q.elements places prices levels → IsLine q (line q i)
      → s.plus (s.plus (level s levels (place_of (element q (line q i).dest))) (s.minus (level s levels (place_of (element q (line q i).origin))))) (s.plus (origin_price s (element q (line q i).origin) (price s prices (line q i).origin)) (price s prices (line q i).dest))
      ≡ crossed s q prices i
  paid_is within q places prices levels i h is_line =
      sym (crossed_by_levels s l q i (price s prices) (level s levels) is_line h.rises
      ∙ ap (λ w. s.plus (s.plus (level s levels (place_of (element q (line q i).dest))) (s.minus (level s levels (place_of (element q (line q i).origin))))) (s.plus w (price s prices (line q i).dest))) (origin_same (element q (line q i).origin) (price s prices (line q i).origin)))

-- How large sums of what fits are.
module _ {V : Type 0} (s : Scale V) (fits : ℤ → V → Bool) (b : IsBounded s fits) where
  pub price_fits : (x : V) → fits (pos (2 ^ 40)) x ≡ true → fits (pos (2 ^ 100)) x ≡ true
  price_fits x h = b.wider (pos (2 ^ 40)) (pos (2 ^ 100)) x (omega (arith, ints)) h

  pub level_fits : (x : V) → fits (pos (2 ^ 52)) x ≡ true → fits (pos (2 ^ 100)) x ≡ true
  level_fits x h = b.wider (pos (2 ^ 52)) (pos (2 ^ 100)) x (omega (arith, ints)) h

  pub unit_fits : (x : V) → fits (pos 16) x ≡ true → fits (pos (2 ^ 100)) x ≡ true
  unit_fits x h = b.wider (pos 16) (pos (2 ^ 100)) x (omega (arith, ints)) h

  pub paid_fits : (x : V) → fits (pos (2 ^ 54)) x ≡ true → fits (pos (2 ^ 100)) x ≡ true
  paid_fits x h = b.wider (pos (2 ^ 54)) (pos (2 ^ 100)) x (omega (arith, ints)) h

  pub ends_fit : (x y z : V) → fits (pos (2 ^ 40)) x ≡ true → fits (pos (2 ^ 40)) y ≡ true → z ≡ s.plus x y → fits (pos (2 ^ 42)) z ≡ true
  ends_fit x y z h i e = subst (λ w. fits (pos (2 ^ 42)) w ≡ true) (sym e) (b.wider (pos (2 ^ 40) +ℤ pos (2 ^ 40)) (pos (2 ^ 42)) (s.plus x y) (omega (arith, ints)) (b.plus (pos (2 ^ 40)) (pos (2 ^ 40)) x y h i))

  pub route_fits : (x y z : V) → fits (pos (2 ^ 52)) x ≡ true → fits (pos (2 ^ 52)) y ≡ true → z ≡ s.plus x (s.minus y) → fits (pos (2 ^ 53)) z ≡ true
  route_fits x y z h i e = subst (λ w. fits (pos (2 ^ 53)) w ≡ true) (sym e) (b.wider (pos (2 ^ 52) +ℤ pos (2 ^ 52)) (pos (2 ^ 53)) (s.plus x (s.minus y)) (omega (arith, ints)) (b.plus (pos (2 ^ 52)) (pos (2 ^ 52)) x (s.minus y) h (b.minus (pos (2 ^ 52)) y i)))

  pub all_fit : (x y z : V) → fits (pos (2 ^ 53)) x ≡ true → fits (pos (2 ^ 42)) y ≡ true → z ≡ s.plus x y → fits (pos (2 ^ 54)) z ≡ true
  all_fit x y z h i e = subst (λ w. fits (pos (2 ^ 54)) w ≡ true) (sym e) (b.wider (pos (2 ^ 53) +ℤ pos (2 ^ 42)) (pos (2 ^ 54)) (s.plus x y) (omega (arith, ints)) (b.plus (pos (2 ^ 53)) (pos (2 ^ 42)) x y h i))

  pub route_large : (x : V) → fits (pos (2 ^ 53)) x ≡ true → fits (pos (2 ^ 100)) x ≡ true
  route_large x h = b.wider (pos (2 ^ 53)) (pos (2 ^ 100)) x (omega (arith, ints)) h

  pub ends_large : (x : V) → fits (pos (2 ^ 42)) x ≡ true → fits (pos (2 ^ 100)) x ≡ true
  ends_large x h = b.wider (pos (2 ^ 42)) (pos (2 ^ 100)) x (omega (arith, ints)) h
