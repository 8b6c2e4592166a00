-- Reading digits one by one.
use Rattle.std.proofs.Common.{lit<}
use Rattle.std.proofs.lemmas.List.{drop_all}
use Rattle.std.proofs.Common.{◌≡◌, ℕ, ◌+◌, ◌-◌, ◌*◌, ◌<◌, ◌≤◌, ◌^◌, List, Option, Some, None, true, false, length, drop, get_or, refl, arith, drop-cons, add-one}
use Rattle.std.specs.Char.{is_ascii_digit}
use Rattle.std.proofs.Common.{◌==◌, nat_lt}
use Rattle.std.proofs.lemmas.Grind.{common_steps}
use Rattle.std.proofs.Math.Nat.{pow-le-pow_right}
use Rattle.gd_text_part.specs.Numbers.{number_of, number_after}
use Rattle.gd_text_part.specs.declared.number.TheConstants.{MAX_DIGITS}

pub one_more : (n i d : ℕ) → n < 10 ^ i → d < 10 → 10 * n + d < 10 ^ (i + 1)
one_more n i d h k = rw add-one (omega arith)

pub fits : (n i : ℕ) → n < 10 ^ i → i < MAX_DIGITS → 10 * n + 10 < 2 ^ 64
fits n i h k =
    let le : i ≤ 17 = omega arith in
    let most = pow-le-pow_right {n = 10} (lit< tt) le in
    omega (arith, most)

-- one digit on
pub reads_on : (n i : ℕ) (bytes : List ℕ) (total : Option ℕ) → i < length bytes → is_ascii_digit (get_or bytes i 0) ≡ true → number_after n (drop i bytes) ≡ total
    → number_after (10 * n + (get_or bytes i 0 - 48)) (drop (i + 1) bytes) ≡ total
unfolding number_after
reads_on n i bytes total lt digit so_far = rw add-one (rw (drop-cons bytes i 0, digit) at so_far)

pub stops : (n i : ℕ) (bytes : List ℕ) (total : Option ℕ) → i < length bytes → is_ascii_digit (get_or bytes i 0) ≡ false → number_after n (drop i bytes) ≡ total → None ≡ total
unfolding number_after
stops n i bytes total lt digit so_far = rw (drop-cons bytes i 0, digit) at so_far

pub is_done : (n i : ℕ) (bytes : List ℕ) (total : Option ℕ) → length bytes ≤ i → number_after n (drop i bytes) ≡ total → Some n ≡ total
unfolding number_after
is_done n i bytes total le so_far = rw (drop_all i bytes le) at so_far

pub is_number : (bytes : List ℕ) → (length bytes == 0) ≡ false → nat_lt MAX_DIGITS (length bytes) ≡ false → number_of bytes ≡ number_after 0 bytes
is_number bytes some few = rw (some, few) refl

pub digit_below : (bytes : List ℕ) (i : ℕ) → is_ascii_digit (get_or bytes i 0) ≡ true → get_or bytes i 0 - 48 < 10
digit_below bytes i digit = grind (arith, common_steps)

pub within : (n i : ℕ) → n < 10 ^ i → i ≤ MAX_DIGITS → n < 10 ^ MAX_DIGITS
within n i h le =
    let most = pow-le-pow_right {n = 10} (lit< tt) le in
    omega (arith, most)
