-- Hexadecimal digits are ASCII.
use Rattle.std.proofs.Common.{◌≡◌, ℕ, List, [], ◌∷◌, true, nat_lt, ltb-true, refl}
use Rattle.std.proofs.lemmas.Bool.{and_parts}
use Rattle.std.proofs.lemmas.Str.Ascii.{IsAscii-nil, IsAscii-cons}
use Rattle.std.specs.List.{list_all}
use Rattle.std.specs.Str.{IsAscii}
use Rattle.hex.specs.Hex.{lower_digits}

-- a text is ASCII where each of its bytes is seen to be
from_test : (text : List ℕ) → list_all (λ byte. nat_lt byte 128) text ≡ true → IsAscii text
from_test [] seen = IsAscii-nil
from_test (byte ∷ text) seen =
    let parts = and_parts (nat_lt byte 128) (list_all (λ b. nat_lt b 128) text) seen in
    IsAscii-cons byte text (ltb-true byte 128 parts.0) (from_test text parts.1)

pub IsAscii-lower_digits : IsAscii lower_digits
IsAscii-lower_digits = from_test lower_digits refl
