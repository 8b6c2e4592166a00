-- Tenths, and what dekatherms weigh, as the code counts them.
use Rattle.std.proofs.Common.{◌≡◌, ℕ, suc, zero, ◌+◌, ◌-◌, ◌<◌, ◌≤◌, refl, sym, ap, ◌∙◌, arith, Bool, true, false, add-one}
use Rattle.std.specs.Prelude.{if◌then◌else◌, nat_lt}
use borrow.Author.Tests.{ltb-true, ltb-false, lt-ltb}
use Rattle.gd_scale.specs.Sum.{sum_nat}
use Rattle.gd_rules.specs.Spread.{tenth_of, tenth_end}

test_up : (b : Bool) → (if b then 1 else 0) ≤ 1
test_up true = omega arith
test_up false = omega arith

count_up : (n : ℕ) (p : ℕ → Bool) → sum_nat n (λ j. if p j then 1 else 0) ≤ n
count_up zero p = omega arith
count_up (suc n) p = omega (arith, count_up n p, test_up (p n))

pub tenth_high : (ceiling d : ℕ) → tenth_of ceiling d ≤ 10
tenth_high ceiling d = count_up 10 (λ j. nat_lt (tenth_end ceiling j) d)

first_counts : (n : ℕ) (f : ℕ → ℕ) → f 0 ≤ sum_nat (suc n) f
first_counts zero f = omega arith
first_counts (suc n) f = omega (arith, first_counts n f)

pub tenth_low : (ceiling d : ℕ) → 1 ≤ d → 1 ≤ tenth_of ceiling d
tenth_low ceiling d h =
    let e : tenth_end ceiling 0 ≡ 0 = omega arith in
    let f : nat_lt (tenth_end ceiling 0) d ≡ true = lt-ltb (tenth_end ceiling 0) d (omega arith) in
    let g : (if nat_lt (tenth_end ceiling 0) d then 1 else 0) ≡ 1 = ap {B = ℕ} (λ b. if b then 1 else 0) f in
    omega (arith, first_counts 9 (λ j. if nat_lt (tenth_end ceiling j) d then 1 else 0), g)

-- one dekatherm more, past the end of a tenth or not
past : (t n : ℕ) (b : Bool) → nat_lt t (n + 1) ≡ b → (n + 1) - t ≡ (n - t) + (if b then 1 else 0)
past t n true h = let k : t < n + 1 = ltb-true t (n + 1) h in omega arith
past t n false h = let k : n + 1 ≤ t = ltb-false t (n + 1) h in omega arith

pasts : (m n : ℕ) (t : ℕ → ℕ) → sum_nat m (λ j. (n + 1) - t j) ≡ sum_nat m (λ j. n - t j) + sum_nat m (λ j. if nat_lt (t j) (n + 1) then 1 else 0)
pasts zero n t = omega arith
pasts (suc m) n t = omega (arith, pasts m n t, past (t m) n (nat_lt (t m) (n + 1)) refl)

none_past : (m : ℕ) (t : ℕ → ℕ) → sum_nat m (λ j. 0 - t j) ≡ 0
none_past zero t = refl
none_past (suc m) t = omega (arith, none_past m t)

-- What the first n dekatherms weigh: as many as lie past the end of each tenth from 0 to 9.
pub weight_is : (ceiling n : ℕ) → sum_nat 10 (λ j. n - tenth_end ceiling j) ≡ sum_nat n (λ d. tenth_of ceiling (d + 1))
weight_is ceiling zero = none_past 10 (tenth_end ceiling)
weight_is ceiling (suc n) = ap (λ k. sum_nat 10 (λ j. k - tenth_end ceiling j)) (sym (add-one n)) ∙ pasts 10 n (tenth_end ceiling) ∙ ap (λ w. w + tenth_of ceiling (n + 1)) (weight_is ceiling n)

-- After ten steps the sum is the weight of the whole quantity.
pub weight_counted : (w j last count ceiling n : ℕ) → w ≡ sum_nat j (λ k. count - tenth_end last k) → j ≡ 10 → last ≡ ceiling → count ≡ n → w ≡ sum_nat n (λ d. tenth_of ceiling (d + 1))
weight_counted w j last count ceiling n is ten l m =
    is ∙ ap (λ i. sum_nat i (λ k. count - tenth_end last k)) ten ∙ weight_is last count ∙ ap (λ i. sum_nat i (λ d. tenth_of last (d + 1))) m ∙ ap (λ u. sum_nat n (λ d. tenth_of u (d + 1))) l

-- After ten steps all tenths that end below are counted.
pub tenth_counted : (t j last ceiling d : ℕ) → t ≡ sum_nat j (λ k. if nat_lt (tenth_end last k) d then 1 else 0) → j ≡ 10 → last ≡ ceiling → t ≡ tenth_of ceiling d
tenth_counted t j last ceiling d is ten l =
    is ∙ ap (λ i. sum_nat i (λ k. if nat_lt (tenth_end last k) d then 1 else 0)) ten ∙ ap (λ u. tenth_of u d) l
