-- What is known of a board: of each cell its posting, or nothing yet.
use Rattle.std.specs.Prelude.{◌≡◌, ◌≤◌, ℕ, ◌-◌, List, Option, Some, None, IfSome, slice_index_or}
use Rattle.gd_board.specs.declared.posting.Posting.{Posting}

pub record Knowledge : Type 0 where
  pub cells : List ℕ
  pub known : List (Option Posting)

-- what is known of a cycle, 1 to 5
abbrev pub known_of : Knowledge → ℕ → Option Posting
known_of k cycle = slice_index_or k.known (cycle - 1) None

-- each posting that is known stays known
abbrev pub StaysKnown : Knowledge → Knowledge → Type 0
StaysKnown old new =
    (cycle : ℕ) → 1 ≤ cycle → IfSome (known_of old cycle) (λ posting. known_of new cycle ≡ Some posting)
