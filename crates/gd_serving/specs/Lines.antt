-- Lines of bytes that come in parts.
use Rattle.std.specs.Prelude.{◌≡◌, ℕ, ◌==◌, false, List, [], ◌∷◌, ◌++◌, flat_map, if◌then◌else◌}
use Rattle.std.specs.List.{AllByRecursion}

-- the lines of some bytes behind the beginning of one, each without its line feed, and the beginning of the next
abbrev pub cut : List ℕ → List ℕ → List (List ℕ) × List ℕ
cut begun [] = ([], begun)
cut begun (b ∷ bytes) = if b == 10 then (begun ∷ (cut [] bytes).0, (cut [] bytes).1) else cut (begun ++ b ∷ []) bytes

-- no byte is a line feed
abbrev pub HasNoEnd : List ℕ → Type 0
HasNoEnd bytes = AllByRecursion (λ b. (b == 10) ≡ false) bytes

-- lines, each with its line feed
abbrev pub text_of_lines : List (List ℕ) → List ℕ
text_of_lines lines = flat_map (λ line. line ++ 10 ∷ []) lines
