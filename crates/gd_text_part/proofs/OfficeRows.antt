-- The rows of an office's text, and of an archived posting's body, at worked examples.
use Rattle.std.specs.Prelude.{◌≡◌, ℕ, List, [], ◌∷◌, ◌++◌, codes, Some, Ok, ⊤, refl}
use Rattle.std.specs.Str.{is_utf8, chars}
use lib.Utf8.{encode}
use Rattle.csv.proofs.OnLiterals.{csv_on_literals}
use Rattle.csv.specs.Records.{field_at}
use Rattle.gd_text_part.proofs.ExampleTexts.{text, read, refused}
use Rattle.gd_text_part.specs.Events.{nominate_row, post_row, only_moment, session_row}
use Rattle.gd_text_part.specs.Numbers.{number_after}
use Rattle.gd_text_part.specs.Rows.{empty_run, key_at, segment_row, day_row, carry_row, question_row, bumped_row}
use Rattle.gd_text_part.specs.Texts.{rows_from}
use Rattle.gd_text_part.specs.declared.fault.Cause.TheVariants.{BadField, Missing, Order, UnknownKind}
use Rattle.gd_text_part.specs.declared.kind.Form.TheVariants as form
use Rattle.gd_text_part.specs.declared.row.PipelineRow.TheVariants.{Segment}
use Rattle.gd_text_part.specs.declared.row.QuestionRow.TheVariants.{Head}
use Rattle.gd_text_part.specs.declared.row.EventRow.TheVariants.{Nominate, Post}
use Rattle.gd_text_part.specs.declared.row.OfficeRow.TheVariants.{Session, Desk}
use Rattle.gd_text_part.specs.declared.row.Row.{Row}
use Rattle.gd_text_part.specs.declared.row.Row.TheVariants as row

-- what an example unfolds
unfoldable computed : ⊤
unfolding csv_on_literals field_at is_utf8 chars encode number_after empty_run key_at segment_row day_row carry_row
    question_row bumped_row nominate_row post_row only_moment session_row rows_from text read refused
computed = tt

segment : List ℕ
segment = codes "segment,S,A,B,9,,,"

-- the head of a block, whose book has a name of one letter
head : ℕ → List ℕ
head book = codes "day,2026-03-08,UTC0," ++ book ∷ codes ",,,,"

segment_read : Row
segment_read = row.Pipeline (Segment (codes "S") (codes "A") (codes "B") 9)

head_read : ℕ → Row
head_read book = row.Day (record { year = 2026; month = 3; day = 8 }) (codes "UTC0") (Some (book ∷ []))

-- two blocks, the first with a carried quantity
blocks : List (List ℕ)
blocks = segment ∷ head 75 ∷ codes "carry,F,G,R,D,5,," ∷ segment ∷ head 76 ∷ []

-- a whole text: two blocks; a phase of a session with the book of the second, which nominates, and of one with that of the
-- first, which posts; and a desk round without sessions
whole : read form.Office (blocks
    ++ codes "session,2,P,,,,," ∷ codes "nominate,7,P,F,G,R,D,6" ∷ codes "session,1,O,,,,," ∷ codes "post,7,S,8,,,,"
    ∷ codes "desk,8,,,,,," ∷ codes "desk,9,,,,,," ∷ [])
    ≡ Ok (
    segment_read
    ∷ head_read 75
    ∷ row.Carry (record { contract = codes "F"; «package» = codes "G"; origin = codes "R"; dest = codes "D" }) 5
    ∷ segment_read
    ∷ head_read 76
    ∷ row.Office (Session 2 (codes "P"))
    ∷ row.Event (Nominate 7 (codes "P")
    (record { contract = codes "F"; «package» = codes "G"; origin = codes "R"; dest = codes "D" }) 6)
    ∷ row.Office (Session 1 (codes "O"))
    ∷ row.Event (Post 7 (codes "S") 8)
    ∷ row.Office (Desk 8)
    ∷ row.Office (Desk 9)
    ∷ [])
unfolding computed blocks segment head segment_read head_read
whole = refl

-- two sessions behind a desk round that no further one follows: the first of them, row 8, is out of order
left_over : read form.Office (blocks
    ++ codes "session,1,P,,,,," ∷ codes "desk,8,,,,,," ∷ codes "session,1,P,,,,," ∷ codes "session,2,P,,,,," ∷ [])
    ≡ refused 8 Order
unfolding computed blocks segment head
left_over = refl

-- a nomination of the party of the session before is bad at its party, and one behind a desk round is out of order
wrong_party : (read form.Office (blocks
    ++ codes "session,1,P,,,,," ∷ codes "session,1,O,,,,," ∷ codes "nominate,7,P,F,G,R,D,6" ∷ [])
    ≡ refused 8 (BadField 3))
    × (read form.Office (blocks
    ++ codes "session,1,P,,,,," ∷ codes "desk,8,,,,,," ∷ codes "nominate,7,P,F,G,R,D,6" ∷ [])
    ≡ refused 8 Order)
unfolding computed blocks segment head
wrong_party = (refl, refl)

-- there is no third slot; and a block without a `day` row is missed at the end alone, also where one follows it
slots : (read form.Office (blocks ++ codes "session,3,P,,,,," ∷ []) ≡ refused 6 (BadField 2))
    × (read form.Office (segment ∷ codes "carry,F,G,R,D,5,," ∷ segment ∷ head 76 ∷ codes "session,1,P,,,,,"
    ∷ codes "desk,8,,,,,," ∷ [])
    ≡ refused 7 Missing)
unfolding computed blocks segment head
slots = (refl, refl)

posting : List (List ℕ)
posting = segment ∷ codes "question,K,2,3,,,," ∷ codes "bumped,1,20,,,,," ∷ []

-- the body of a posting that bumped a line; in another text `bumped` names no kind
bumped : (read form.Body posting
    ≡ Ok (segment_read ∷ row.Question (Head (codes "K") 2 3) ∷ row.Bumped 1 20 ∷ []))
    × (read form.CheckBest posting ≡ refused 3 UnknownKind)
unfolding computed posting segment segment_read
bumped = (refl, refl)
