-- What an audit tells of a book's file.
use Rattle.std.specs.Prelude.{◌≡◌, ◌⊎◌, ℕ, Bool, true, false, List, length, count_by}
use Rattle.sqlite.specs.State.{State}
use Rattle.gd_journal_store.specs.Pieces.{Piece, Keeps}
use Rattle.gd_machine.specs.Headline.{Holds}
use Rattle.gd_machine.specs.declared.reply.Reply.{Reply as BookReply}
use Rattle.gd_machine.specs.declared.reply.Reply.TheVariants as book
use Rattle.gd_live.specs.Stands.{Stand}
use Rattle.gd_serving.specs.declared.replaying.ReplayFault.{ReplayFault}
use Rattle.gd_replies.specs.declared.reply.Reply.{Reply}
use Rattle.gd_replies.specs.declared.reply.Reply.TheVariants as reply
use Rattle.gasday_part.specs.Answers.{Told, one}
use Rattle.gasday_live.specs.Books.{Stands}
use Rattle.gasday_live.specs.Faults.{Explains, TellsFault}
use Rattle.gasday_live.specs.Texts.{IsDay}

-- whether a schedule was published
abbrev pub is_published : BookReply → Bool
is_published (book.Published number cycle round bumped) = true
is_published answered = false

-- The row of a book that stands so behind so many calls: these, its events, and how many of them published a schedule.
abbrev pub replayed_row : Stand → ℕ → Reply
replayed_row s calls = reply.Replayed s.day.name calls (length s.history) (count_by (λ e. is_published e.1) s.history)

-- The file keeps a book, of whose history the headline holds, and `day` may answer its text with what the file says was told.
-- That is told with status 0.
pub record IsReplayed (was : State) (a : Told) : Type 0 where
  pub pieces : List Piece
  pub keeps : Keeps pieces was.now
  pub calls : ℕ
  pub stand : Stand
  pub stands : Stands pieces calls stand
  pub holds : Holds stand.day stand.history
  pub is_day : IsDay pieces
  pub told : a ≡ one (replayed_row stand calls) 0

-- The file is replayed, or a fault is told.
abbrev pub Audits : State → Told → Type 0
Audits was a = IsReplayed was a ⊎ ((why : ReplayFault) × Explains was why × TellsFault why a)
