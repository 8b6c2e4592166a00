-- What is written where a book that is asked isn't made again.
use Rattle.std.proofs.Common.{◌≡◌, inl, inr, ℕ, List, Option, Result, Ok, Err, IfOk, refl}
use Rattle.sqlite.specs.State.{State}
use Rattle.gd_serving.specs.declared.replaying.ReplayFault.{ReplayFault}
use Rattle.gasday_part.specs.AnswerSeen.{answer_seen}
use Rattle.gasday_part.specs.Answers.{Told, no_memory, one}
use Rattle.gasday_part.specs.Output.{Written}
use Rattle.gasday_part.specs.declared.answer.Answer.{Answer}
use Rattle.gasday_part.specs.declared.inquiry.Inquiry.{Inquiry}
use Rattle.gasday_live.specs.Asked.{AsksBook}
use Rattle.gasday_live.specs.Faults.{Explains, TellsFault}

pub tells_fault : {E : Type 0} (was : State) (asked : Inquiry) (before behind : Option (List ℕ)) (status : ℕ) (why : ReplayFault) (r : Result Answer E) → Explains was why → IfOk r (λ a. TellsFault why (answer_seen a))
    → ((told : Told) → IfOk r (λ a. answer_seen a ≡ told) → Written before behind status told) → AsksBook was asked before behind status
tells_fault was asked before behind status why (Ok a) explains told writes = inr (why, explains, (answer_seen a, told, writes (answer_seen a) refl))
tells_fault was asked before behind status why (Err e) explains told writes = inl (inr (writes (one no_memory 2) tt))
