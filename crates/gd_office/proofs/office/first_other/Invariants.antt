use Rattle.std.proofs.Common.{take}
use Rattle.gd_office.specs.Slots.{AreOf}
use Rattle.gd_office.proofs.office.first_other.Given as goal

abbrev pub invariant-loop-at : goal.invariant-loop-at
invariant-loop-at g l = AreOf l.slot (take l.at l.sessions)
