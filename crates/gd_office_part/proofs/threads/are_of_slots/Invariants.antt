use Rattle.std.proofs.Common.{take}
use Rattle.std.specs.List.{AllZip}
use Rattle.gd_office_part.specs.Sending.{IsOfSlot}
use Rattle.gd_office_part.proofs.threads.are_of_slots.Given as goal

abbrev pub invariant-loop-at : goal.invariant-loop-at
invariant-loop-at g l = AllZip (IsOfSlot l.slots) (take l.at l.sessions) (take l.at l.rows)
