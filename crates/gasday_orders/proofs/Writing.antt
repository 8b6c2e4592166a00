-- What is written of the check of an answer.
use Rattle.std.proofs.Common.{◌≡◌, ℕ, List, Option, Result, Ok, Err, IfOk, refl, inl, inr}
use Rattle.gasday_part.specs.AnswerSeen.{answer_seen}
use Rattle.gasday_part.specs.Answers.{Told, one, no_memory}
use Rattle.gasday_part.specs.Output.{Written, WritesTold}
use Rattle.gasday_part.specs.declared.answer.Answer.{Answer}
use Rattle.gasday_part.specs.Solutions.{ChecksAnswer}
use Rattle.gasday_orders.specs.Checked.{TellsAnswer}

-- what is told of an answer to a question is written
pub checked : {E : Type 0} (question answer : List ℕ) (r : Result Answer E) (old new : Option (List ℕ)) (status : ℕ) → IfOk r (λ a. ChecksAnswer question answer (answer_seen a))
    → ((told : Told) → IfOk r (λ a. answer_seen a ≡ told) → Written old new status told) → WritesTold (TellsAnswer question answer) old new status
checked question answer (Ok a) old new status is writes = (answer_seen a, inl is, writes (answer_seen a) refl)
checked question answer (Err e) old new status is writes = (one no_memory 2, inr refl, writes (one no_memory 2) tt)
