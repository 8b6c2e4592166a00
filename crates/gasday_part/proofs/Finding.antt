-- What was found of the rows of a text is an answer to the text.
use Rattle.std.proofs.Common.{◌≡◌, ℕ, List, Result, Ok, Err, IfOk, inl, sym, subst}
use Rattle.gd_text_part.specs.Texts.{rows_of, IsWithin}
use Rattle.gd_text_part.specs.declared.row.Row.{Row}
use Rattle.gd_text_part.specs.declared.fault.RowFault.{RowFault}
use Rattle.gasday_part.specs.declared.answer.Answer.{Answer}
use Rattle.gd_text_part.specs.declared.kind.Form.{Form}
use Rattle.gasday_part.specs.Answers.{Told, AnswersText, BytesAnswered}
use Rattle.gasday_part.specs.AnswerSeen.{answer_seen}

module _ (form : Form) (answers : List Row → Told → Type 0) where
  -- an answer to the rows of a text answers its bytes
  pub finds : {E : Type 0} (text : List ℕ) (rows : List Row) (r : Result Answer E)
      → IsWithin text × (rows_of form text ≡ Ok rows)
      → IfOk r (λ a. answers rows (answer_seen a)) → IfOk r (λ a. BytesAnswered form answers text (answer_seen a))
  finds text rows (Err e) read found = tt
  finds text rows (Ok a) read found =
      inl (read.0, subst (λ (o : Result (List Row) RowFault). AnswersText answers o (answer_seen a)) (sym read.1) found)
