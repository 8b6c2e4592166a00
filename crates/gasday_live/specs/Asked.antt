-- What is written where something is asked of the book that a file keeps.
use Rattle.std.specs.Prelude.{◌⊎◌, ℕ, List, Option}
use Rattle.sqlite.specs.State.{State}
use Rattle.gd_journal_store.specs.Pieces.{Piece, Keeps}
use Rattle.gd_machine.specs.Headline.{Holds}
use Rattle.gd_live.specs.Stands.{Stand}
use Rattle.gd_serving.specs.declared.replaying.ReplayFault.{ReplayFault}
use Rattle.gasday_part.specs.Inquiries.{PrintsInquiry, Writes}
use Rattle.gasday_part.specs.Output.{WritesTold}
use Rattle.gasday_part.specs.declared.inquiry.Inquiry.{Inquiry}
use Rattle.gasday_live.specs.Books.{Stands}
use Rattle.gasday_live.specs.Faults.{Explains, TellsFault}

-- The file keeps a book, of whose history the headline holds, and this is printed of it.
pub record PrintsKept (was : State) (asked : Inquiry) (text : List ℕ) (status : ℕ) : Type 0 where
  pub pieces : List Piece
  pub keeps : Keeps pieces was.now
  pub calls : ℕ
  pub stand : Stand
  pub stands : Stands pieces calls stand
  pub holds : Holds stand.day stand.history
  pub prints : PrintsInquiry stand.day stand.history asked text status

-- What is asked of the file's book was written, or that memory ran out; or a fault was told.
abbrev pub AsksBook : State → Inquiry → Option (List ℕ) → Option (List ℕ) → ℕ → Type 0
AsksBook was asked before behind status =
    Writes (PrintsKept was asked) before behind status
    ⊎ ((why : ReplayFault) × Explains was why × WritesTold (TellsFault why) before behind status)
