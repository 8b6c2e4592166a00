-- Sums of whole numbers.
use Rattle.std.proofs.Common.{◌≡◌, ◌≢◌, ℕ, suc, zero, ◌<◌, ◌+◌, ◌≤◌, refl, sym, ap, ◌∙◌, subst, arith, inl, inr}
use Rattle.std.specs.Prelude.{ℤ, pos, ◌+ℤ◌, ◌≤ℤ◌, ◌<ℤ◌}
use Rattle.std.proofs.lemmas.Bool.{cases_lt}
use borrow.Author.Differences.{ints}
use Rattle.gd_scale.specs.Sum.{sum_nat, sum_int}

pub int_same : (n : ℕ) (f g : ℕ → ℤ) → ((i : ℕ) → i < n → f i ≡ g i) → sum_int n f ≡ sum_int n g
int_same zero f g h = refl
int_same (suc n) f g h = ap (λ w. w +ℤ f n) (int_same n f g (λ i k. h i (omega arith))) ∙ ap (λ w. sum_int n g +ℤ w) (h n (omega arith))

pub int_zero : (n : ℕ) (f : ℕ → ℤ) → ((i : ℕ) → i < n → f i ≡ pos 0) → sum_int n f ≡ pos 0
int_zero zero f h = refl
int_zero (suc n) f h = let a : sum_int n f ≡ pos 0 = int_zero n f (λ i k. h i (omega arith)) in let b : f n ≡ pos 0 = h n (omega arith) in omega (arith, ints)

pub int_plus : (n : ℕ) (f g : ℕ → ℤ) → sum_int n (λ i. f i +ℤ g i) ≡ sum_int n f +ℤ sum_int n g
int_plus zero f g = refl
int_plus (suc n) f g = let a : sum_int n (λ i. f i +ℤ g i) ≡ sum_int n f +ℤ sum_int n g = int_plus n f g in omega (arith, ints)

pub int_at_most : (n : ℕ) (f g : ℕ → ℤ) → ((i : ℕ) → i < n → f i ≤ℤ g i) → sum_int n f ≤ℤ sum_int n g
int_at_most zero f g h = omega (arith, ints)
int_at_most (suc n) f g h = let a : sum_int n f ≤ℤ sum_int n g = int_at_most n f g (λ i k. h i (omega arith)) in let b : f n ≤ℤ g n = h n (omega arith) in omega (arith, ints)

-- one of them is less
pub int_less : (n : ℕ) (f g : ℕ → ℤ) (j : ℕ) → ((i : ℕ) → i < n → f i ≤ℤ g i) → j < n → f j <ℤ g j → sum_int n f <ℤ sum_int n g
int_less zero f g j h k strict = absurd (omega arith)
int_less (suc n) f g j h k strict = elim (cases_lt j n) [
  | inl p ↦ let a : sum_int n f <ℤ sum_int n g = int_less n f g j (λ i k. h i (omega arith)) p strict in let b : f n ≤ℤ g n = h n (omega arith) in omega (arith, ints)
  | inr p ↦
      let e : j ≡ n = omega arith in
      let a : sum_int n f ≤ℤ sum_int n g = int_at_most n f g (λ i k. h i (omega arith)) in
      let b : f n <ℤ g n = rw (sym e) strict in
      omega (arith, ints)
]

pub all_pos : (n : ℕ) (f : ℕ → ℕ) → sum_int n (λ i. pos (f i)) ≡ pos (sum_nat n f)
all_pos zero f = refl
all_pos (suc n) f = ap (λ w. w +ℤ pos (f n)) (all_pos n f)

-- all but one are 0
pub int_one : (n k : ℕ) (f : ℕ → ℤ) → k < n → ((i : ℕ) → i < n → i ≢ k → f i ≡ pos 0) → sum_int n f ≡ f k
int_one zero k f h other = absurd (omega arith)
int_one (suc n) k f h other = elim (cases_lt k n) [
  | inl p ↦ let a : sum_int n f ≡ f k = int_one n k f p (λ i j. other i (omega arith)) in let b : f n ≡ pos 0 = other n (omega arith) (omega arith) in omega (arith, ints)
  | inr p ↦
      let e : n ≡ k = omega arith in
      let a : sum_int n f ≡ pos 0 = int_zero n f (λ i j. other i (omega arith) (omega arith)) in
      rw a (ap (λ w. pos 0 +ℤ f w) e ∙ omega (arith, ints))
]

-- one of them changes
pub int_changed : (n k : ℕ) (f g : ℕ → ℤ) → k < n → ((i : ℕ) → i < n → i ≢ k → g i ≡ f i) → sum_int n g +ℤ f k ≡ sum_int n f +ℤ g k
int_changed zero k f g h other = absurd (omega arith)
int_changed (suc n) k f g h other = elim (cases_lt k n) [
  | inl p ↦ let a : sum_int n g +ℤ f k ≡ sum_int n f +ℤ g k = int_changed n k f g p (λ i j. other i (omega arith)) in let b : g n ≡ f n = other n (omega arith) (omega arith) in omega (arith, ints)
  | inr p ↦
      let e : n ≡ k = omega arith in
      let a : sum_int n g ≡ sum_int n f = int_same n g f (λ i j. other i (omega arith) (omega arith)) in
      subst (λ m. sum_int (suc n) g +ℤ f m ≡ sum_int (suc n) f +ℤ g m) e (omega (arith, ints))
]

nat_same : (n : ℕ) (f g : ℕ → ℕ) → ((i : ℕ) → i < n → g i ≡ f i) → sum_nat n g ≡ sum_nat n f
nat_same zero f g h = refl
nat_same (suc n) f g h = let a : sum_nat n g ≡ sum_nat n f = nat_same n f g (λ i k. h i (omega arith)) in let b : g n ≡ f n = h n (omega arith) in omega arith

-- one of them grows by at most so much
pub nat_raised : (n k : ℕ) (f g : ℕ → ℕ) (m : ℕ) → k < n → ((i : ℕ) → i < n → i ≢ k → g i ≡ f i) → g k ≤ f k + m → sum_nat n g ≤ sum_nat n f + m
nat_raised zero k f g m h other most = absurd (omega arith)
nat_raised (suc n) k f g m h other most = elim (cases_lt k n) [
  | inl p ↦ let a : sum_nat n g ≤ sum_nat n f + m = nat_raised n k f g m p (λ i j. other i (omega arith)) most in let b : g n ≡ f n = other n (omega arith) (omega arith) in omega arith
  | inr p ↦
      let e : k ≡ n = omega arith in
      let a : sum_nat n g ≡ sum_nat n f = nat_same n f g (λ i j. other i (omega arith) (omega arith)) in
      let b : g n ≤ f n + m = subst (λ i. g i ≤ f i + m) e most in
      omega arith
]

-- each is at most their sum
pub nat_term : (n k : ℕ) (f : ℕ → ℕ) → k < n → f k ≤ sum_nat n f
nat_term zero k f h = absurd (omega arith)
nat_term (suc n) k f h = elim (cases_lt k n) [
  | inl p ↦ let a : f k ≤ sum_nat n f = nat_term n k f p in omega arith
  | inr p ↦ let e : n ≡ k = omega arith in subst (λ i. f i ≤ sum_nat (suc n) f) e (omega arith)
]
