-- What is written of the check of an answer.
use Rattle.std.specs.Prelude.{◌≡◌, ◌⊎◌, ℕ, List}
use Rattle.gasday_part.specs.Answers.{Told, no_memory, one}
use Rattle.gasday_part.specs.Solutions.{ChecksAnswer}

-- what is told of an answer to a question, or that memory ran out
abbrev pub TellsAnswer : List ℕ → List ℕ → Told → Type 0
TellsAnswer question answer a = ChecksAnswer question answer a ⊎ (a ≡ one no_memory 2)
