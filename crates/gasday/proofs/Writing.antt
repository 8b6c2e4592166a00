-- What is written of an answer.
use Rattle.std.proofs.Common.{◌≡◌, ℕ, List, Option, Result, IfOk}
use Rattle.gasday_part.specs.AnswerSeen.{answer_seen}
use Rattle.gasday_part.specs.Answers.{Told}
use Rattle.gasday_part.specs.Output.{Written, WritesTold}
use Rattle.gasday_part.specs.declared.answer.Answer.{Answer}
use Rattle.gasday_archive.specs.Runs.{Tells}

-- what is told is written
pub told : {E : Type 0} (P : Told → Type 0) (r : Result Answer E) (old new : Option (List ℕ)) (status : ℕ) → Tells P r
    → ((told : Told) → IfOk r (λ a. answer_seen a ≡ told) → Written old new status told) → WritesTold P old new status
told P r old new status t writes = (t.told, t.means, writes t.told t.is)
