-- What is told of an answer, from the parts of its text.
use Rattle.std.proofs.Common.{◌≡◌, ◌++◌, true, List, ℕ, Result, Ok, length, inl, inr, subst, sym}
use Rattle.gd_text_part.specs.Texts.{rows_of, IsWithin}
use Rattle.gd_text_part.specs.declared.kind.Form.{Form}
use Rattle.gd_text_part.specs.declared.row.Row.{Row}
use Rattle.gd_text_part.specs.declared.fault.RowFault.{RowFault}
use Rattle.gasday_words.specs.declared.order.Command.{Command}
use Rattle.gasday_part.specs.Answers.{Told, AnswersBytes, AnswersText, BytesAnswered, form_of}
use Rattle.gasday_part.specs.Solutions.{ChecksAnswer, ChecksBehind, check_of, head_in, is_head, judged, rows_in}

-- an answer with this head, of whose check over the question and these rows this was told
pub judged_behind : (question : List ℕ) (before : ℕ) (answer head rows text : List ℕ) (check : Command) (told a : Told)
    → is_head answer ≡ true → head ≡ head_in answer → rows ≡ rows_in answer → text ≡ question ++ rows → check ≡ check_of answer
    → AnswersBytes check text told → a ≡ judged before head told → ChecksBehind question before answer a
judged_behind question before answer head rows text check told a begins heads are_rows is_text is_check tells is =
    let over : AnswersBytes check (question ++ rows) told = subst (λ (t : List ℕ). AnswersBytes check t told) is_text tells in
    let by : AnswersBytes (check_of answer) (question ++ rows) told = subst (λ (k : Command). AnswersBytes k (question ++ rows) told) is_check over in
    let all = subst (λ (r : List ℕ). AnswersBytes (check_of answer) (question ++ r) told) are_rows by in
    inr (begins, (told, all, subst (λ (h : List ℕ). a ≡ judged before h told) heads is))

-- an answer that is checked behind a question with these rows
pub checked_whole : (question answer : List ℕ) (form : Form) (rows : List Row) (a : Told) → form ≡ form_of (check_of answer)
    → IsWithin question × (rows_of form question ≡ Ok rows) → ChecksBehind question (length rows) answer a → ChecksAnswer question answer a
checked_whole question answer form rows a is_form reads checks =
    let P = λ (f : Form). BytesAnswered f (λ rs. ChecksBehind question (length rs) answer) question a in
    let told = subst (λ (r : Result (List Row) RowFault). AnswersText (λ rs. ChecksBehind question (length rs) answer) r a) (sym reads.1) checks in
    let here : P form = inl (reads.0, told) in
    subst P is_form here
