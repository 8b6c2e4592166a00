-- Rows of fields that csv reads as they stand.
use Rattle.std.specs.Prelude.{◌≡◌, ℕ, ◌==◌, ◌||◌, not, nat_le, Bool, true, false, List, [], ◌∷◌, length}
use Rattle.std.specs.List.{AllByRecursion, list_all}
use Rattle.gd_text_part.specs.declared.row.TheConstants.{FIELD_COUNT}
use Rattle.gd_body.specs.Rows.{Fields}

-- a byte that is no comma, no quotation mark and no end of a line
abbrev pub is_plain : ℕ → Bool
is_plain c = not ((c == 44) || ((c == 34) || ((c == 13) || (c == 10))))

abbrev pub IsPlain : List ℕ → Type 0
IsPlain bytes = list_all is_plain bytes ≡ true

-- whether the first field has a byte, which begins no byte order mark
abbrev pub begins_plainly : Fields → Bool
begins_plainly [] = false
begins_plainly ([] ∷ fields) = false
begins_plainly ((c ∷ bytes) ∷ fields) = not (c == 239)

-- at most 19 bytes: a name has 16, and a number 18 digits and a sign
abbrev pub IsShortField : List ℕ → Type 0
IsShortField bytes = nat_le (length bytes) 19 ≡ true

pub record IsPlainRow (fields : Fields) : Type 0 where
  pub eight : length fields ≡ FIELD_COUNT
  pub short : AllByRecursion IsShortField fields
  pub begins : begins_plainly fields ≡ true
  pub plain : AllByRecursion IsPlain fields
