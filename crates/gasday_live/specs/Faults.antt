-- Why the book of a file isn't made again, and how that is told.
use Rattle.std.specs.Prelude.{◌≡◌, List, ⊤}
use Rattle.sqlite.specs.Effect.{Database}
use Rattle.sqlite.specs.State.{State}
use Rattle.gd_journal_store.specs.Pieces.{Piece, Keeps}
use Rattle.gd_replies.specs.declared.reply.Reply.TheVariants as reply
use Rattle.gd_serving.specs.declared.replaying.ReplayFault.{ReplayFault}
use Rattle.gd_serving.specs.declared.replaying.ReplayFault.TheVariants.{Differs, OutOfMemory, Store}
use Rattle.gasday_part.specs.Answers.{Told, one, refused}
use Rattle.gasday_live.specs.Books.{Blames}

-- Where the file differs from a book is told with status 1, and with status 2 why it can't be read; want of memory isn't.
abbrev pub TellsFault : ReplayFault → Told → Type 0
TellsFault (Differs piece call) a = a ≡ refused (reply.Differs piece call)
TellsFault OutOfMemory a = ⊥
TellsFault (Store f) a = a ≡ one reply.Store 2

-- a difference is told of the pieces that a database keeps
abbrev pub ExplainsIn : Database → ReplayFault → Type 0
ExplainsIn had (Differs piece call) = (ps : List Piece) × Keeps ps had × Blames ps (Differs piece call)
ExplainsIn had OutOfMemory = ⊤
ExplainsIn had (Store f) = ⊤

-- the same of the database that a file has
abbrev pub Explains : State → ReplayFault → Type 0
Explains was why = ExplainsIn was.now why
