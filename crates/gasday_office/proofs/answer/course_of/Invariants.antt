use Rattle.gasday_office.specs.Offices.{IsOrder}
use Rattle.gasday_office.proofs.answer.course_of.Given as goal

-- The slots so far came to what is in order, or one did not.
abbrev pub invariant-slots : goal.invariant-slots
invariant-slots g l = IsOrder g.J.Days.days l.slot-index l.rows l.is_in_order
