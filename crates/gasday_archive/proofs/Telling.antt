-- What is told where nothing is opened.
use Rattle.std.proofs.Common.{◌≡◌, ◌≢◌, ℕ, Bool, List, Option, None, Result, Ok, Err, IfOk, refl, sym, subst, inl, inr}
use Rattle.sqlite.specs.Held.{Held}
use Rattle.sqlite.specs.declared.error.Error.{Error}
use Rattle.sqlite_trees.specs.declared.store.Store.{Ghosts}
use Rattle.gd_text_part.specs.Texts.{Tells as TellsOfRows}
use Rattle.gd_text_part.specs.declared.fault.RowFault.{RowFault}
use Rattle.gd_text_part.specs.declared.fault.TextFault.{TextFault}
use Rattle.gd_text_part.specs.declared.fault.TextFault.TheVariants as fault
use Rattle.gd_text_part.specs.declared.kind.Form.TheVariants as form
use Rattle.gd_text_part.specs.declared.row.Row.{Row}
use Rattle.gasday_part.specs.AnswerSeen.{answer_seen}
use Rattle.gasday_part.specs.Answers.{Told, one, fault_answer, no_memory}
use Rattle.gasday_part.specs.declared.answer.Answer.{Answer}
use Rattle.gasday_archive.specs.Runs.{Tells, OrNoMemory, TellsBytes, TellsRows}

tells : {E : Type 0} (P : Told → Type 0) (r : Result Answer E) → IfOk r (λ a. P (answer_seen a)) → P (one no_memory 2) → Tells P r
tells P (Ok a) means memory = record { told = answer_seen a; means = means; is = refl }
tells P (Err e) means memory = record { told = one no_memory 2; means = memory; is = tt }

-- an answer for which nothing is opened
pub unopened : {S E : Type 0} (P : Option (Held S) → Told → Type 0) (left : Option (Held S)) (answer r : Result Answer E) → left ≡ None → r ≡ answer → IfOk answer (λ a. P None (answer_seen a)) → Tells (OrNoMemory P left) r
unopened {S} {E} P left answer r closed is means =
    subst (λ o. Tells (OrNoMemory P o) r) (sym closed)
    (subst (Tells (OrNoMemory P None)) (sym is) (tells (OrNoMemory P None) answer (may answer means) (inr (refl, refl))))
  where
    may : (x : Result Answer E) → IfOk x (λ a. P None (answer_seen a)) → IfOk x (λ a. OrNoMemory P None (answer_seen a))
    may (Ok a) told = inl told
    may (Err e) told = tt

-- what is told in one way is told in another
pub told_so : {S E : Type 0} (P Q : Option (Held S) → Told → Type 0) (left : Option (Held S)) (r : Result Answer E) → ((a : Told) → P left a → Q left a) → Tells (OrNoMemory P left) r → Tells (OrNoMemory Q left) r
told_so P Q left r so t = record { told = t.told; means = either t.told t.means; is = t.is }
  where
    either : (a : Told) → OrNoMemory P left a → OrNoMemory Q left a
    either a (inl means) = inl (so a means)
    either a (inr memory) = inr memory

module _ {S : Type 0} (g : Ghosts S) (gives : Result (Held S) Error → Type 0) where
  -- a fault of a text in memory
  pub bytes_refused : (strict : Bool) {X : Type 0} (view : X → List Row) (text : List ℕ) (f : TextFault) → TellsOfRows view form.Day text (Err f) → f ≢ fault.OutOfMemory → TellsBytes g gives strict text None (fault_answer f)
  bytes_refused strict view text (fault.Row n c) blamed other = inl (blamed.0, subst (λ (o : Result (List Row) RowFault). TellsRows g gives strict o None (fault_answer (fault.Row n c))) (sym blamed.1) (refl, refl))
  bytes_refused strict view text fault.TooLong blamed other = inr (blamed, refl, refl)
  bytes_refused strict view text fault.ReadFailed blamed other = absurd blamed
  bytes_refused strict view text fault.OutOfMemory blamed other = absurd (other refl)

-- an answer to a text, for which nothing is opened
pub alone : {S E : Type 0} (P : Told → Type 0) (left : Option (Held S)) (answer r : Result Answer E) → left ≡ None → r ≡ answer → IfOk answer (λ a. P (answer_seen a)) → Tells (OrNoMemory (λ (o : Option (Held S)) a. (o ≡ None) × P a) left) r
alone {S} {E} P left answer r closed is means = unopened (λ (o : Option (Held S)) a. (o ≡ None) × P a) left answer r closed is (may answer means)
  where
    may : (x : Result Answer E) → IfOk x (λ a. P (answer_seen a)) → IfOk x (λ a. (λ (o : Option (Held S)) (b : Told). (o ≡ None) × P b) None (answer_seen a))
    may (Ok a) told = (refl, told)
    may (Err e) told = tt
