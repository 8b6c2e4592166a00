use Rattle.std.proofs.Common.{arith}
use Rattle.gd_rules.specs.GasDay.Mark.{Leaves, Received, Quick, Confirmed, Schedules, Effective}
use Rattle.gd_calendar.proofs.Places.{in_row, below}
use Rattle.gd_calendar.proofs.calendar.place.Goals as goal

pub returns-in-Leaves : goal.returns-in-Leaves
returns-in-Leaves c = rw (c.in-Leaves.is, ← c.number.ensures.is) (record { is = in_row Leaves c.number.result (omega arith) (omega arith); bound = below Leaves c.number.result (omega arith) (omega arith) })

pub returns-in-Received : goal.returns-in-Received
returns-in-Received c = rw (c.in-Received.is, ← c.number.ensures.is) (record { is = in_row Received c.number.result (omega arith) (omega arith); bound = below Received c.number.result (omega arith) (omega arith) })

pub returns-in-Quick : goal.returns-in-Quick
returns-in-Quick c = rw (c.in-Quick.is, ← c.number.ensures.is) (record { is = in_row Quick c.number.result (omega arith) (omega arith); bound = below Quick c.number.result (omega arith) (omega arith) })

pub returns-in-Confirmed : goal.returns-in-Confirmed
returns-in-Confirmed c = rw (c.in-Confirmed.is, ← c.number.ensures.is) (record { is = in_row Confirmed c.number.result (omega arith) (omega arith); bound = below Confirmed c.number.result (omega arith) (omega arith) })

pub returns-in-Schedules : goal.returns-in-Schedules
returns-in-Schedules c = rw (c.in-Schedules.is, ← c.number.ensures.is) (record { is = in_row Schedules c.number.result (omega arith) (omega arith); bound = below Schedules c.number.result (omega arith) (omega arith) })

pub returns-in-Effective : goal.returns-in-Effective
returns-in-Effective c = rw (c.in-Effective.is, ← c.number.ensures.is) (record { is = in_row Effective c.number.result (omega arith) (omega arith); bound = below Effective c.number.result (omega arith) (omega arith) })
