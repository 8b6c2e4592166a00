-- What an audit of all its postings finds of an archive.
use Rattle.std.specs.Prelude.{◌≡◌, ℕ, zero, suc, List, [], length, slice_get, Option, Some, None}
use Rattle.sha2.specs.Sha256.{sha256}
use Rattle.sqlite.specs.Order.{Row, column}
use Rattle.sqlite.specs.declared.types.Value.{Value}
use Rattle.sqlite.specs.declared.types.Value.TheVariants.{Blob}
use Rattle.gd_scale.specs.Sum.{sum_nat}
use Rattle.gd_rules.specs.Schedule.{quantity}
use Rattle.gd_board.specs.declared.posting.Posting.{Posting}
use Rattle.gd_archive.specs.Bumps.{HasBumps, compared_with}
use Rattle.gd_archive.specs.declared.bumps.Bumps.{Bumps}
use Rattle.gd_archive.specs.Soundness.{Explains, IsBook, IsCycle, IsLabel, Passes, posting_of}
use Rattle.gd_archive.specs.declared.finding.Finding.{Finding}
use Rattle.gd_archive.specs.declared.finding.Finding.TheVariants.{Sound, Unsound}
use Rattle.gd_archive.specs.declared.finding.Summary.{Summary}
use Rattle.gd_archive.specs.declared.row.Label.{Label}

-- what a schedule gives all lines together
abbrev pub total : List ℕ → ℕ
total schedule = sum_nat (length schedule) (quantity schedule)

abbrev pub text_in : Value → List ℕ
text_in (Blob text) = text
text_in v = []

-- the SHA-256 of the text that a body is
abbrev pub sum_of : Value → List ℕ
sum_of body = sha256 (text_in body)

-- a posting in numbers
abbrev pub summary : Label → Posting → Value → Summary
summary label p body = record {
  book = label.book;
  cycle = label.cycle;
  round = p.round;
  rule = label.rule;
  lines = length p.schedule;
  quantity = total p.schedule;
  sum = sum_of body;
}

-- A row that stands behind another one is sound by its rule, this is its posting in numbers, and this is found of its bumped lines.
pub record IsSoundWith (before : Option Row) (row : Row) (told : Summary) (found : Bumps) : Type 0 where
  pub label : Label
  pub posting : Posting
  pub labelled : IsLabel row label
  pub kept : posting_of row ≡ Some posting
  pub passes : Passes label.rule posting
  pub is : told ≡ summary label posting (column row 3)
  pub bumps : HasBumps (compared_with before posting) posting found

-- what is found of a row that stands behind another one: that it is sound, and of its bumped lines, or why it is not
abbrev pub IsFinding : Option Row → Row → Finding → Type 0
IsFinding before row (Sound told found) = IsSoundWith before row told found
IsFinding before row (Unsound book cycle what) = IsBook row book × IsCycle row cycle × Explains row what

-- the row that stands before another one
abbrev pub before_of : List Row → ℕ → Option Row
before_of rows zero = None
before_of rows (suc k) = slice_get rows k

-- each row is found so, in their order
pub record AreFindings (rows : List Row) (findings : List Finding) : Type 0 where
  pub count : length findings ≡ length rows
  pub each : (k : ℕ) (row : Row) (found : Finding) → slice_get rows k ≡ Some row → slice_get findings k ≡ Some found
      → IsFinding (before_of rows k) row found
