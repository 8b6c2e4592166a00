-- The names of books.
use Rattle.std.specs.Prelude.{ℕ, Bool, true, not, ◌&&◌, List, [], ◌∷◌}
use Rattle.std.specs.List.{list_any}
use Rattle.gd_rules.specs.Lines.{same_name}
use Rattle.gd_book.specs.Kept.{Kept}

-- Whether one of these books has this name.
abbrev pub has_name : List ℕ → List Kept → Bool
has_name name books = list_any (λ b. same_name b.day.name name) books

-- Whether no book has the name of one after it.
abbrev pub are_apart : List Kept → Bool
are_apart [] = true
are_apart (b ∷ books) = not (has_name b.day.name books) && are_apart books
