-- What the test of UTF-8 tells.
use Rattle.std.proofs.Common.{◌≡◌, refl, true, false, Bool, ℕ, List}
use Rattle.std.specs.Str.{IsUtf8, is_utf8}
use Rattle.std.proofs.lemmas.Str.{IsUtf8-from_is_utf8}

decided : (bs : List ℕ) → ¬ (IsUtf8 bs) → (b : Bool) → is_utf8 bs ≡ b → b ≡ false
decided bs h true e = absurd (h (IsUtf8-from_is_utf8 bs e))
decided bs h false e = refl

pub fails : (bs : List ℕ) → ¬ (IsUtf8 bs) → is_utf8 bs ≡ false
fails bs h = decided bs h (is_utf8 bs) refl
