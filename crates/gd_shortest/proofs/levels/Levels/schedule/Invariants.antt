use Rattle.std.proofs.Common.{◌≡◌, length}
use Rattle.gd_shortest.proofs.levels.Levels.schedule.Given as goal

abbrev pub invariant-loop-line : goal.invariant-loop-line
invariant-loop-line l = length l.quantities.items ≡ l.line
