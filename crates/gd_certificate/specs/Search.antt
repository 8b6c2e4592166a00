-- Searches by a test that is asked at 0, 1 and so on.
use Rattle.std.specs.Prelude.{ℕ, ◌<◌, Bool, true, false, Option, Some, None}

-- The first number below n at which the test's answer is true.
abbrev pub FindsFirst : ℕ → (ℕ → Bool → Type 0) → Option ℕ → Type 0
FindsFirst n answers None = (k : ℕ) → k < n → answers k false
FindsFirst n answers (Some k) = (k < n) × answers k true × ((j : ℕ) → j < k → answers j false)
