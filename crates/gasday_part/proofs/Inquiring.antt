-- What is written of an inquiry, and what tells that there is no book.
use Rattle.std.proofs.Common.{◌≡◌, inl, inr, ℕ, false, List, Option, Result, Ok, Err, IfOk, refl, sym, subst, ap, arith}
use Rattle.std.specs.Prelude.{◌≢◌, IsErr, string_bytes}
use Rattle.gd_text_part.specs.Texts.{Tells}
use Rattle.gd_text_part.specs.declared.fault.RowFault.{RowFault}
use Rattle.gd_text_part.specs.declared.fault.TextFault.{TextFault}
use Rattle.gd_text_part.specs.declared.fault.TextFault.TheVariants as fault
use Rattle.gd_text_part.specs.declared.kind.Form.TheVariants as form
use Rattle.gd_text_part.specs.declared.row.Row.{Row}
use Rattle.gasday_words.specs.declared.order.Command.TheVariants as command
use Rattle.gasday_part.specs.AnswerSeen.{answer_seen}
use Rattle.gasday_part.specs.Answers.{AnswersBytes, AnswersRows, AnswersText, Told, fault_answer, no_memory, one}
use Rattle.gasday_part.specs.Inquiries.{TellsFaulty, Writes, WritesNoMemory, WritesText}
use Rattle.gasday_part.specs.OpenedBooks.{ExplainsNoBook, TellsNoBook}
use Rattle.gasday_part.specs.Output.{Written}
use Rattle.gasday_part.proofs.Openings.{tells_none}
use Rattle.gasday_part.specs.declared.answer.Answer.{Answer}
use Rattle.gasday_part.specs.declared.inquiry.Printed.{Printed}
use Rattle.gasday_part.specs.declared.opened.NoBook.{NoBook}
use Rattle.gasday_part.specs.declared.opened.NoBook.TheVariants as none

module _ (before behind : Option (List ℕ)) (status : ℕ) where
  -- what tells that there is no book was written, or that memory ran out
  pub tells_faulty : {E : Type 0} (tells : Told → Type 0) (r : Result Answer E) → IfOk r (λ a. tells (answer_seen a) × ((answer_seen a).status ≢ 0)) → ((told : Told) → IfOk r (λ a. answer_seen a ≡ told) → Written before behind status told)
      → TellsFaulty tells before behind status
  tells_faulty tells (Ok a) told writes = inl (answer_seen a, told.0, told.1, writes (answer_seen a) refl)
  tells_faulty tells (Err e) told writes = inr (writes (one no_memory 2) tt)

-- rows that open no book aren't told with status 0
pub no_book_not_0 : (why : NoBook) (a : Told) → TellsNoBook why a → a.status ≢ 0
no_book_not_0 (none.Fault f) a told e = let is = ap (λ (t : Told). t.status) told.1 in omega (arith, is, e)
no_book_not_0 (none.NoCalendar f) a told e = let is = ap (λ (t : Told). t.status) told.1 in omega (arith, is, e)

-- what `day` answers to rows that open no book
pub tells_no_book : {E : Type 0} (rows : List Row) (why : NoBook) (r : Result Answer E) → ExplainsNoBook rows why → IfOk r (λ a. TellsNoBook why (answer_seen a))
    → IfOk r (λ a. AnswersRows command.Day rows (answer_seen a) × ((answer_seen a).status ≢ 0))
tells_no_book rows why (Err e) explains told = tt
tells_no_book rows why (Ok a) explains told = (tells_none false rows why (answer_seen a) explains told, no_book_not_0 why (answer_seen a) told)

-- what it answers to a text that has no rows
pub tells_no_rows : {X E : Type 0} (view : X → List Row) (text : List ℕ) (f : TextFault) (r : Result Answer E) → Tells view form.Day text (Err f) → IfOk r (λ a. (f ≢ fault.OutOfMemory) × (answer_seen a ≡ fault_answer f))
    → IfOk r (λ a. AnswersBytes command.Day text (answer_seen a) × ((answer_seen a).status ≢ 0))
tells_no_rows view text f (Err e) reads told = tt
tells_no_rows view text f (Ok a) reads told = (by f reads told.0 told.1, λ e. let is = ap (λ (t : Told). t.status) told.1 in omega (arith, is, e))
  where
    by : (g : TextFault) → Tells view form.Day text (Err g) → g ≢ fault.OutOfMemory → answer_seen a ≡ fault_answer g → AnswersBytes command.Day text (answer_seen a)
    by (fault.Row n c) said other is = inl (said.0, subst (λ (o : Result (List Row) RowFault). AnswersText (AnswersRows command.Day) o (answer_seen a)) (sym said.1) is)
    by fault.TooLong said other is = inr (said, is)
    by fault.ReadFailed said other is = absurd said
    by fault.OutOfMemory said other is = absurd (other refl)

-- what is printed of a book was written, if it could be made
pub writes_printed : {E : Type 0} (prints : List ℕ → ℕ → Type 0) (before behind : Option (List ℕ)) (status : ℕ) (r : Result Printed E) → IfOk r (λ it. prints (string_bytes it.text) it.status)
    → IfOk r (λ it. WritesText (string_bytes it.text) it.status before behind status) → (IsErr r → WritesNoMemory before behind status) → Writes prints before behind status
writes_printed prints before behind status (Err e) made written short = inr (short refl)
writes_printed prints before behind status (Ok it) made written short = inl (string_bytes it.text, it.status, made, written)
