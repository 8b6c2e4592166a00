use Rattle.std.proofs.Common.{◌≡◌, drop}
use Rattle.csv.specs.declared.parser.State.TheVariants.{StartRecord}
use Rattle.gd_live.specs.CsvStands.{state_of}
use Rattle.gd_live.proofs.States.{state_behind}
use Rattle.gd_live.proofs.closed.stand_behind.Given as goal

-- the bytes that are left lead to the state that all lead to
abbrev pub invariant-bytes : goal.invariant-bytes
invariant-bytes l = state_behind (state_of l.stand) (drop l.byte-index l.text) ≡ state_behind StartRecord l.text
