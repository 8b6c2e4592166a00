-- What a line's ten tenths add up to.
use Rattle.std.proofs.Common.{◌≡◌, ℕ, suc, zero, ◌+◌, ◌*◌, ◌<◌, ◌≤◌, refl, sym, ap, ◌∙◌, arith, min, Bool, true, false, add-one}
use Rattle.std.specs.Prelude.{◌==◌}
use Rattle.std.proofs.Math.Nat.{mul-le-mul_left}
use borrow.Author.Tests.{eqb-true}
use Rattle.gd_scale.specs.Sum.{sum_nat}
use Rattle.gd_rules.specs.Spread.{tenth_end}
use Rattle.gd_network.specs.Arcs.{most_part, least_part}
use Rattle.gd_network.specs.Flow.{part_of}

pub ends_grow : (ceiling i j : ℕ) → i ≤ j → tenth_end ceiling i ≤ tenth_end ceiling j
ends_grow ceiling i j h = let p : ceiling * i ≤ ceiling * j = mul-le-mul_left ceiling h in omega arith

pub first_end : (ceiling : ℕ) → tenth_end ceiling 0 ≡ 0
first_end ceiling = omega arith

pub last_end : (ceiling : ℕ) → tenth_end ceiling 10 ≡ ceiling
last_end ceiling = omega arith

-- the first n tenths
pub most_sum : (ceiling n : ℕ) → sum_nat n (λ j. most_part ceiling j) ≡ tenth_end ceiling n
most_sum ceiling zero = sym (first_end ceiling)
most_sum ceiling (suc n) =
    let g : tenth_end ceiling n ≤ tenth_end ceiling (n + 1) = ends_grow ceiling n (n + 1) (omega arith) in
    let r : sum_nat n (λ j. most_part ceiling j) ≡ tenth_end ceiling n = most_sum ceiling n in
    let e : tenth_end ceiling (n + 1) ≡ tenth_end ceiling (suc n) = ap (tenth_end ceiling) (add-one n) in
    rw r (omega (arith, g, e))

pub least_sum : (ceiling floor n : ℕ) → sum_nat n (λ j. least_part ceiling floor j) ≡ min floor (tenth_end ceiling n)
least_sum ceiling floor zero = let z : tenth_end ceiling 0 ≡ 0 = first_end ceiling in omega (arith, z)
least_sum ceiling floor (suc n) =
    let g : tenth_end ceiling n ≤ tenth_end ceiling (n + 1) = ends_grow ceiling n (n + 1) (omega arith) in
    let r : sum_nat n (λ j. least_part ceiling floor j) ≡ min floor (tenth_end ceiling n) = least_sum ceiling floor n in
    let e : tenth_end ceiling (n + 1) ≡ tenth_end ceiling (suc n) = ap (tenth_end ceiling) (add-one n) in
    rw r (omega (arith, g, e))

pub most_ten : (ceiling : ℕ) → sum_nat 10 (λ j. most_part ceiling j) ≡ ceiling
most_ten ceiling = most_sum ceiling 10 ∙ last_end ceiling

pub least_ten : (ceiling floor : ℕ) → floor ≤ ceiling → sum_nat 10 (λ j. least_part ceiling floor j) ≡ floor
least_ten ceiling floor h = least_sum ceiling floor 10 ∙ ap (min floor) (last_end ceiling) ∙ omega arith

sum_same : (n : ℕ) (f g : ℕ → ℕ) → ((i : ℕ) → i < n → f i ≡ g i) → sum_nat n f ≡ sum_nat n g
sum_same zero f g h = refl
sum_same (suc n) f g h = ap (λ w. w + f n) (sum_same n f g (λ i k. h i (omega arith))) ∙ ap (λ w. sum_nat n g + w) (h n (omega arith))

-- but for the last tenth a quantity fills its tenths as a floor does
early : (ceiling n j : ℕ) → j < 9 → part_of ceiling n j ≡ least_part ceiling n j
early ceiling n j h = by_test (j == 9) refl
  where
    by_test : (b : Bool) → (j == 9) ≡ b → part_of ceiling n j ≡ least_part ceiling n j
    by_test true e = absurd (let k : j ≡ 9 = eqb-true j 9 e in omega arith)
    by_test false e = rw e refl

pub part_ten : (ceiling n : ℕ) → sum_nat 10 (λ j. part_of ceiling n j) ≡ n
part_ten ceiling n =
    ap (λ w. w + part_of ceiling n 9) (sum_same 9 (λ j. part_of ceiling n j) (λ j. least_part ceiling n j) (λ j h. early ceiling n j h) ∙ least_sum ceiling n 9)
    ∙ omega arith

pub most_below : (ceiling j : ℕ) → j < 10 → most_part ceiling j ≤ ceiling
most_below ceiling j h =
    let g : tenth_end ceiling (j + 1) ≤ tenth_end ceiling 10 = ends_grow ceiling (j + 1) 10 (omega arith) in
    let e : tenth_end ceiling 10 ≡ ceiling = last_end ceiling in
    omega (arith, g, e)
