-- What is told of an answer of `solve` to a question.
use Rattle.std.specs.Prelude.{◌≡◌, ◌⊎◌, ℕ, ◌+◌, ◌^◌, ◌==◌, nat_le, nat_eq, Bool, true, false, not, ◌&&◌, ◌||◌, codes, if◌then◌else◌}
use Rattle.std.specs.Prelude.{List, [], ◌∷◌, ◌++◌, length, map, take, drop}
use Rattle.std.specs.List.{starts_with}
use Rattle.std.specs.Str.{bytes_eq}
use Rattle.gd_replies.specs.Lines.{lines_of}
use Rattle.gd_replies.specs.declared.reply.Reply.{Reply}
use Rattle.gd_replies.specs.declared.reply.Reply.TheVariants as reply
use Rattle.gd_text_part.specs.declared.fault.Cause.TheVariants as cause
use Rattle.gd_text_part.specs.declared.fault.TextFault.{TextFault}
use Rattle.gd_text_part.specs.declared.fault.TextFault.TheVariants as fault
use Rattle.gasday_part.specs.Answers.{Told, AnswersBytes, BytesAnswered, fault_answer, form_of}
use Rattle.gasday_words.specs.declared.order.Command.{Command}
use Rattle.gasday_words.specs.declared.order.Command.TheVariants.{CheckBest, CheckCut}

-- whether a line begins an answer, by its kind of row
abbrev pub is_head : List ℕ → Bool
is_head line = starts_with nat_eq line (codes "best,") || starts_with nat_eq line (codes "cut,")

-- whether a line is one of the rows behind an answer's head
abbrev pub is_row : List ℕ → Bool
is_row line = starts_with nat_eq line (codes "sched,") || (starts_with nat_eq line (codes "price,") || starts_with nat_eq line (codes "inside,"))

-- how many bytes stand before the first of these rows; whether a line begins at the first byte is told
abbrev pub head_len : Bool → List ℕ → ℕ
head_len begun [] = 0
head_len begun (c ∷ answer) = if begun && is_row (c ∷ answer) then 0 else 1 + head_len (c == 10) answer

-- an answer's head, and the rows behind it
abbrev pub head_in : List ℕ → List ℕ
head_in answer = take (head_len true answer) answer

abbrev pub rows_in : List ℕ → List ℕ
rows_in answer = drop (head_len true answer) answer

-- the check that an answer asks for
abbrev pub check_of : List ℕ → Command
check_of answer = if starts_with nat_eq answer (codes "cut,") then CheckCut else CheckBest

-- how many rows lines have: those that aren't empty
abbrev pub row_count : Bool → List ℕ → ℕ
row_count begun [] = 0
row_count begun (c ∷ lines) =
    if begun && (not (c == 10) && not (c == 13)) then 1 + row_count (c == 10) lines else row_count (c == 10) lines

-- the row and the field behind one more byte of a row
abbrev pub behind_byte : ℕ → ℕ → ℕ → ℕ × ℕ
behind_byte row field c = if c == 10 then (row + 1, 1) else if c == 44 then (row, field + 1) else (row, field)

-- the row and the field of the first byte at which lines are other ones than those that are wanted
abbrev pub first_other : ℕ × ℕ → List ℕ → List ℕ → ℕ × ℕ
first_other at (c ∷ lines) (d ∷ wanted) = if c == d then first_other (behind_byte at.0 at.1 c) lines wanted else at
first_other at _ _ = at

abbrev pub bad_field : ℕ × ℕ → TextFault
bad_field at = fault.Row at.0 (cause.BadField at.1)

-- the fault of a head that begins at this row and is another one than it should be
abbrev pub other_head : ℕ → List ℕ → List ℕ → TextFault
other_head first head wanted = bad_field (first_other (first, 1) head wanted)

-- A row of the text without a head as a row of the whole text, where the head has so many rows behind so many others. (No row's
-- number is near the greatest that there is.)
abbrev pub counted_in : ℕ → ℕ → ℕ → ℕ
counted_in before more row = if nat_le row before || nat_le (2 ^ 64) (row + more) then row else row + more

abbrev pub moved : ℕ → ℕ → Reply → Reply
moved before more (reply.Fault (fault.Row row c)) = reply.Fault (fault.Row (counted_in before more row) c)
moved before more r = r

-- What is told of an answer with this head, behind a question of so many rows, of which its check told this: that, with the head's
-- rows counted in, where it isn't good; that where it is and the head says the same; and else where the head differs.
abbrev pub judged : ℕ → List ℕ → Told → Told
judged before head told =
    if not (told.status == 0) then record { replies = map (moved before (row_count true head)) told.replies; status = told.status }
    else if bytes_eq head (lines_of told.replies) then told
    else fault_answer (other_head (before + 1) head (lines_of told.replies))

-- the fault of an answer whose first row this is, and that doesn't begin as one
abbrev pub no_answer : ℕ → List ℕ → TextFault
no_answer first [] = fault.Row first cause.Missing
no_answer first (c ∷ answer) = fault.Row first (cause.BadField 1)

-- An answer to a question of so many rows is judged by what its check tells of the question and the rows behind its head; or it is
-- none.
abbrev pub ChecksBehind : List ℕ → ℕ → List ℕ → Told → Type 0
ChecksBehind question before answer a =
    ((is_head answer ≡ false) × (a ≡ fault_answer (no_answer (before + 1) answer)))
    ⊎ ((is_head answer ≡ true) × ((told : Told) × AnswersBytes (check_of answer) (question ++ rows_in answer) told × (a ≡ judged before (head_in answer) told)))

-- an answer to the question of a text is checked, or the first fault of the question is told
abbrev pub ChecksAnswer : List ℕ → List ℕ → Told → Type 0
ChecksAnswer question answer a =
    BytesAnswered (form_of (check_of answer)) (λ rows. ChecksBehind question (length rows) answer) question a
