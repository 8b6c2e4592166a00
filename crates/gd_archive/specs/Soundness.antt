-- The posting that a row of an archive keeps, and when the row is sound.
use Rattle.std.specs.Prelude.{◌≡◌, ◌≢◌, ◌==◌, ◌&&◌, ℕ, pos, Bool, false, List, [], ⊤, map, Option, Some, None, if◌then◌else◌}
use Rattle.std.specs.Ordering.{int_eq}
use Rattle.std.specs.Str.{bytes_eq}
use Rattle.sqlite.specs.Order.{Row, column}
use Rattle.sqlite.specs.declared.types.Value.{Value}
use Rattle.sqlite.specs.declared.types.Value.TheVariants.{Int, Text, Blob}
use Rattle.gd_rules.specs.Schedule.{IsAllowed, HasBetterTotals}
use Rattle.gd_rules.specs.Spread.{IsBest}
use Rattle.gd_rules.specs.Tariff.{IsPricedByTariff, IsPricedByClasses}
use Rattle.gd_cost.specs.Parts.{class_words, words_of}
use Rattle.gd_cost.specs.Made.{first_of}
use Rattle.gd_certificate.specs.InForce.{ExplainsTariff, ExplainsClasses}
use Rattle.gd_certificate.specs.declared.CertFault.{CertFault}
use Rattle.gd_certificate.specs.declared.CertFault.TheVariants.{OutOfMemory as NoMemory}
use Rattle.gd_board.specs.declared.posting.Posting.{Posting}
use Rattle.gd_body.specs.Body.{posting_in}
use Rattle.gd_archive.specs.declared.fault.Rule.{Rule}
use Rattle.gd_archive.specs.declared.fault.Rule.TheVariants.{Classes, Spread}
use Rattle.gd_archive.specs.declared.fault.AuditFault.{AuditFault}
use Rattle.gd_archive.specs.declared.fault.AuditFault.TheVariants.{OldVersion, Store, Unsound as Unfit}
use Rattle.gd_archive.specs.declared.fault.Unsound.{Unsound}
use Rattle.gd_archive.specs.declared.row.Label.{Label}
use Rattle.gd_archive.specs.declared.fault.Unsound.TheVariants.{Damaged, Uncertified}
use Rattle.gd_archive.specs.declared.sound.Verdict.{Verdict}
use Rattle.gd_archive.specs.declared.sound.Verdict.TheVariants as verdict

-- the posting that a value is the text of
abbrev pub posting_of_body : Value → Option Posting
posting_of_body (Blob text) = posting_in text
posting_of_body v = None

-- the value is this whole number
abbrev pub is_number : ℕ → Value → Bool
is_number n (Int z) = int_eq z (pos n)
is_number n v = false

-- the posting is of this book, cycle and round
abbrev pub is_of : List ℕ → ℕ → Value → Posting → Bool
is_of book cycle round p = bytes_eq p.book book && (p.cycle == cycle) && is_number p.round round

abbrev pub where_of : List ℕ → ℕ → Value → Option Posting → Option Posting
where_of book cycle round None = None
where_of book cycle round (Some p) = if is_of book cycle round p then Some p else None

-- The posting of this book, cycle and round that a body is the text of.
abbrev pub posting_at : List ℕ → ℕ → Value → Value → Option Posting
posting_at book cycle round body = where_of book cycle round (posting_of_body body)

abbrev pub text_of : Value → List ℕ
text_of (Text text) = text
text_of v = []

abbrev pub count_of : Value → ℕ
count_of (Int (pos n)) = n
count_of v = 0

-- The posting that a row of book, cycle, round and body keeps. None where its body is no posting, or one of another book,
-- cycle or round.
abbrev pub posting_of : Row → Option Posting
posting_of row = posting_at (text_of (column row 0)) (count_of (column row 1)) (column row 2) (column row 3)

-- The schedule is allowed, the prices are right for it by this rule, and so no allowed schedule is better by it.
abbrev pub Passes : Rule → Posting → Type 0
Passes Classes p =
    IsAllowed p.question.asked p.schedule × IsPricedByClasses p.question.asked p.schedule (map (words_of 8) (map first_of p.prices))
    × ((other : List ℕ) → IsAllowed p.question.asked other → HasBetterTotals p.question.asked other p.schedule → ⊥)
Passes Spread p =
    IsAllowed p.question.asked p.schedule × IsPricedByTariff p.question.asked p.schedule (map class_words p.prices)
    × IsBest p.question.asked p.schedule

-- what is first wrong with the schedule or the prices by this rule
abbrev pub ExplainsBy : Rule → Posting → CertFault → Type 0
ExplainsBy Classes p fault = ExplainsClasses p.question.asked p.schedule (map (words_of 8) (map first_of p.prices)) fault
ExplainsBy Spread p fault = ExplainsTariff p.question.asked p.schedule (map class_words p.prices) fault

-- the number of a rule
abbrev pub number : Rule → ℕ
number Classes = 1
number Spread = 2

-- a row of book, cycle, round, body and rule keeps a posting that passes by its rule
pub record IsSound (row : Row) : Type 0 where
  pub rule : Rule
  pub posting : Posting
  pub ruled : column row 4 ≡ Int (pos (number rule))
  pub kept : posting_of row ≡ Some posting
  pub passes : Passes rule posting

-- why a row is not sound, for which want of memory is no reason
abbrev pub Explains : Row → Unsound → Type 0
Explains row Damaged = posting_of row ≡ None
Explains row (Uncertified fault) =
    (fault ≢ NoMemory) × (rule : Rule) × (p : Posting) × (column row 4 ≡ Int (pos (number rule))) × (posting_of row ≡ Some p) × ExplainsBy rule p fault

-- the row is of this book
abbrev pub IsBook : Row → List ℕ → Type 0
IsBook row book = column row 0 ≡ Text book

-- the row is of this cycle
abbrev pub IsCycle : Row → ℕ → Type 0
IsCycle row cycle = column row 1 ≡ Int (pos cycle)

-- the row is of this book and cycle, and its posting is checked by this rule
pub record IsLabel (row : Row) (label : Label) : Type 0 where
  pub book : IsBook row label.book
  pub cycle : IsCycle row label.cycle
  pub rule : column row 4 ≡ Int (pos (number label.rule))

-- the row has a label
pub record IsLabelled (row : Row) : Type 0 where
  pub label : Label
  pub labelled : IsLabel row label

-- what is told of a row that is not found sound
abbrev pub Blames : Row → AuditFault → Type 0
Blames row OldVersion = ⊥
Blames row (Store e) = ⊤
Blames row (Unfit book cycle what) = IsBook row book × IsCycle row cycle × Explains row what

-- what is found of a row: a posting that passes by its label's rule, or why the row is not sound
abbrev pub IsVerdict : Row → Verdict → Type 0
IsVerdict row (verdict.Sound label p) = IsLabel row label × (posting_of row ≡ Some p) × Passes label.rule p
IsVerdict row (verdict.Unsound label what) = IsLabel row label × Explains row what
