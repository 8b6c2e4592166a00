-- How a number is spelled: 1 to MAX_DIGITS decimal digits, leading zeros allowed.
use Rattle.std.specs.Prelude.{ℕ, ◌+◌, ◌-◌, ◌*◌, ◌==◌, ◌||◌, nat_lt, if◌then◌else◌, ℤ, pos, neg_ℤ}
use Rattle.std.specs.Prelude.{List, [], ◌∷◌, length, Option, Some, None, option_map}
use Rattle.std.specs.Char.{is_ascii_digit}
use Rattle.gd_text_part.specs.declared.number.TheConstants.{MAX_DIGITS}

-- the number that n and the digits after it spell
unfoldable pub number_after : ℕ → List ℕ → Option ℕ
number_after n [] = Some n
number_after n (b ∷ rest) = if is_ascii_digit b then number_after (10 * n + (b - 48)) rest else None

abbrev pub number_of : List ℕ → Option ℕ
number_of bytes = if (length bytes == 0) || nat_lt MAX_DIGITS (length bytes) then None else number_after 0 bytes

-- a number that may begin with '-'
abbrev pub signed_of : List ℕ → Option ℤ
signed_of [] = None
signed_of (b ∷ rest) =
    if b == 45 then option_map (λ n. neg_ℤ (pos n)) (number_of rest)
    else option_map (λ n. pos n) (number_of (b ∷ rest))
