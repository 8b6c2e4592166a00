-- Why a run takes no line, within the program.
use Rattle.std.specs.Prelude.{List, ℕ, Option}
use Rattle.sqlite.specs.Effect.{Database}
use Rattle.sqlite.specs.State.{State, HasCleanDisk}
use Rattle.gasday_part.specs.Answers.{Told}
use Rattle.gasday_part.specs.OpenedBooks.{TellsNoBook}
use Rattle.gasday_live.specs.Faults.{ExplainsIn, TellsFault}
use Rattle.gasday_live.specs.Runs.{HasNoBook, KeptNone}
use Rattle.gasday_live.specs.declared.beginning.NoRun.{NoRun}
use Rattle.gasday_live.specs.declared.beginning.NoRun.TheVariants.{Opening, File}

-- what a reason says of the input, and of what the file had
abbrev pub ExplainsNoRun : Option (List ℕ) → Database → State → NoRun → Type 0
ExplainsNoRun all had new (Opening why) = HasNoBook all why × (HasCleanDisk new → KeptNone had)
ExplainsNoRun all had new (File why) = HasCleanDisk new → ExplainsIn had why

-- how it is told
abbrev pub TellsNoRun : NoRun → Told → Type 0
TellsNoRun (Opening why) a = TellsNoBook why a
TellsNoRun (File why) a = TellsFault why a
