-- What is written of a text that can't be read.
use Rattle.std.proofs.Common.{◌≡◌, ◌≢◌, ◌⊎◌, ℕ, List, Option, Result, Ok, Err, IfOk, refl, inl, inr}
use Rattle.gd_text_part.specs.declared.fault.TextFault.{TextFault}
use Rattle.gd_text_part.specs.declared.fault.TextFault.TheVariants as fault
use Rattle.gasday_part.specs.AnswerSeen.{answer_seen}
use Rattle.gasday_part.specs.Answers.{Told, one, fault_answer, no_memory}
use Rattle.gasday_part.specs.Output.{Written, WritesTold}
use Rattle.gasday_part.specs.declared.answer.Answer.{Answer}

-- a fault of reading is written
pub faulted : {E : Type 0} (f : TextFault) (r : Result Answer E) (old new : Option (List ℕ)) (status : ℕ) → IfOk r (λ a. (f ≢ fault.OutOfMemory) × (answer_seen a ≡ fault_answer f))
    → ((told : Told) → IfOk r (λ a. answer_seen a ≡ told) → Written old new status told) → WritesTold (λ a. (a ≡ fault_answer f) ⊎ (a ≡ one no_memory 2)) old new status
faulted f (Ok a) old new status is writes = (answer_seen a, inl is.1, writes (answer_seen a) refl)
faulted f (Err e) old new status is writes = (one no_memory 2, inr refl, writes (one no_memory 2) tt)
