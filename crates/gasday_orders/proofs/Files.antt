-- What is told of files that can't be opened, and done with those that are.
use Rattle.std.proofs.Common.{◌≡◌, ℕ, List, Option, None, Result, Err, IfOk, refl, sym, ap, subst}
use Rattle.sqlite_trees.specs.declared.store.Store.{Ghosts}
use Rattle.sqlite.specs.Held.{Held}
use Rattle.sqlite.specs.declared.error.Error.{Error}
use Rattle.gd_replies.specs.declared.reply.Reply.{Reply}
use Rattle.gasday_part.specs.AnswerSeen.{answer_seen}
use Rattle.gasday_part.specs.Answers.{Told, one}
use Rattle.gasday_part.specs.Output.{Written}
use Rattle.gasday_part.specs.declared.answer.Answer.{Answer}
use Rattle.gasday_orders.specs.Files.{DoesOn, TellsUnopened, unopened_row}

pub told_unopened : {E : Type 0} (before behind : Option (List ℕ)) (status : ℕ) (error : Error) (row : Reply) → row ≡ unopened_row error → (r : Result Answer E) → IfOk r (λ a. answer_seen a ≡ one row 2)
    → ((told : Told) → IfOk r (λ a. answer_seen a ≡ told) → Written before behind status told) → TellsUnopened before behind status error
told_unopened before behind status error row is r told writes = (one row 2, ap (λ (it : Reply). one it 2) is, writes (one row 2) told)

-- where the file can't be opened
pub unopened : {S : Type 0} (g : Ghosts S) (does : Held S → Held S → Type 0) (tells : Error → Type 0) (opened : Result (Held S) Error) (e : Error) (left : Option (Held S)) → opened ≡ Err e → left ≡ None → tells e → DoesOn g does tells opened left
unopened {S} g does tells opened e left is none told =
    subst (λ (o : Option (Held S)). DoesOn g does tells opened o) (sym none) (subst (λ (r : Result (Held S) Error). DoesOn g does tells r None) (sym is) (refl, told))
