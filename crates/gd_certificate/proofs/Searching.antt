-- What a search by many threads finds.
use Rattle.std.proofs.Common.{◌≡◌, ℕ, zero, suc, ◌+◌, ◌-◌, ◌^◌, ◌<◌, List, [], ◌∷◌, Bool, true, false, Option, Some, None, sym, subst, arith, add-zero, zero-add, min}
use Rattle.std.specs.Option.{option_map}
use Rattle.std.specs.List.{AllZip, range_with_len}
use Rattle.rayon.specs.Lists.{first_true}
use Rattle.gd_certificate.specs.Search.{FindsFirst}

at_next : (P : ℕ → Bool → Type 0) (a k : ℕ) (b : Bool) → P ((a + 1) + k) b → P (a + suc k) b
at_next P a k b h = subst (λ i. P i b) (let e : (a + 1) + k ≡ a + suc k = omega arith in e) h

at_first : (P : ℕ → Bool → Type 0) (a : ℕ) (b : Bool) → P a b → P (a + 0) b
at_first P a b h = subst (λ i. P i b) (sym (add-zero a)) h

earlier : (P : ℕ → Bool → Type 0) (a n : ℕ) → P a false → ((k : ℕ) → k < n → P ((a + 1) + k) false) → (k : ℕ) → k < suc n → P (a + k) false
earlier P a n first later zero h = at_first P a false first
earlier P a n first later (suc k) h = at_next P a k false (later k (omega arith))

later_one : (P : ℕ → Bool → Type 0) (a n : ℕ) (o : Option ℕ) → suc n < 2 ^ 64 → P a false → FindsFirst n (λ k b. P ((a + 1) + k) b) o → FindsFirst (suc n) (λ k b. P (a + k) b) (option_map (λ k. min (k + 1) (2 ^ 64 - 1)) o)
later_one P a n None lt first h = earlier P a n first h
later_one P a n (Some k) lt first h =
    let known : k < n = h.0 in
    let e : suc k ≡ min (k + 1) (2 ^ 64 - 1) = omega arith in
    subst (λ m. FindsFirst (suc n) (λ k b. P (a + k) b) (Some m)) e (omega arith, at_next P a k true h.1, earlier P a k first h.2)

first_found_from : (P : ℕ → Bool → Type 0) (a n : ℕ) (bs : List Bool) → n < 2 ^ 64 → AllZip P (range_with_len a n) bs → FindsFirst n (λ k b. P (a + k) b) (first_true bs)
first_found_from P a zero [] lt h = λ k i. absurd (omega arith)
first_found_from P a zero (b ∷ bs) lt h = absurd h
first_found_from P a (suc n) [] lt h = absurd h
first_found_from P a (suc n) (true ∷ bs) lt h = (omega arith, at_first P a true h.0, λ j i. absurd (omega arith))
first_found_from P a (suc n) (false ∷ bs) lt h = later_one P a n (first_true bs) lt h.0 (first_found_from P (a + 1) n bs (omega arith) h.1)

from_0 : (P : ℕ → Bool → Type 0) → (λ (k : ℕ) (b : Bool). P (0 + k) b) ≡ P
from_0 P i k b = P (zero-add k i) b

-- The first true answer among those to 0, 1 and so on.
pub first_found : (P : ℕ → Bool → Type 0) (n : ℕ) (bs : List Bool) → n < 2 ^ 64 → AllZip P (range_with_len 0 n) bs → FindsFirst n P (first_true bs)
first_found P n bs lt h = subst (λ (Q : ℕ → Bool → Type 0). FindsFirst n Q (first_true bs)) (from_0 P) (first_found_from P 0 n bs lt h)
