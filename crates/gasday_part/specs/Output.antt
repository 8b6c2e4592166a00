-- What is written of an answer.
use Rattle.std.specs.Prelude.{◌≡◌, ◌⊎◌, ℕ, ◌≤◌, List, [], ◌∷◌, ◌++◌, Option, length, take}
use Rattle.std.specs.Io.KnownBytes.{Appends}
use Rattle.gd_replies.specs.Lines.{lines_of}
use Rattle.gasday_part.specs.Answers.{Told, no_memory}

-- What was written of an answer, and the exit status. All of it. Or memory ran out, and what was written are the first of
-- its rows, whole, and bytes at the front of the row that tells that memory ran out. Or the writer failed, and what was
-- written are bytes at the front of the answer.
abbrev pub Written : Option (List ℕ) → Option (List ℕ) → ℕ → Told → Type 0
Written old new status a =
    (Appends old new (lines_of a.replies) × (status ≡ a.status))
    ⊎ ((n m : ℕ) × Appends old new (lines_of (take n a.replies) ++ take m (lines_of (no_memory ∷ []))) × (status ≡ 2))
    ⊎ ((m : ℕ) × Appends old new (take m (lines_of a.replies)) × (status ≡ 2))

-- What was written of bytes behind which it is told that memory ran out: all of them, and bytes at the front of that row; or, where
-- the writer failed, bytes at their front.
abbrev pub TellsShort : Option (List ℕ) → Option (List ℕ) → List ℕ → Type 0
TellsShort old new bytes =
    ((m : ℕ) × Appends old new (bytes ++ take m (lines_of (no_memory ∷ []))))
    ⊎ ((n : ℕ) × (n ≤ length bytes) × Appends old new (take n bytes))

-- What is written where an answer is one of these: one of them, and nothing else.
abbrev pub WritesTold : (Told → Type 0) → Option (List ℕ) → Option (List ℕ) → ℕ → Type 0
WritesTold tells old new status = (a : Told) × tells a × Written old new status a
