use Rattle.std.proofs.Common.{arith}
use Rattle.gd_calendar.proofs.Calendars.{length_at, read}
use Rattle.gd_calendar.proofs.Places.{start-at, finish-at}
use Rattle.gd_calendar.proofs.calendar.Calendar.hours.Goals as goal

pub overflow_cast-result : goal.overflow_cast-result
overflow_cast-result c =
    let finish = read c.self.inside.moments.items 28 c.index.result.now (omega arith) c.index.ensures in
    let start = read c.self.inside.moments.items 10 c.index-2.result.now (omega arith) c.index-2.ensures in
    let length = length_at c.self.inside.moments.items c.self.invariant.hours in
    omega arith

pub returns-clause-is : goal.returns-clause-is
returns-clause-is c =
    let finish = read c.self.inside.moments.items 28 c.index.result.now (omega arith) c.index.ensures in
    let start = read c.self.inside.moments.items 10 c.index-2.result.now (omega arith) c.index-2.ensures in
    let f = finish-at c.self.inside.moments.items in
    let s = start-at c.self.inside.moments.items in
    rw (← c.self.view_is) (omega arith)

pub returns-clause-whole : goal.returns-clause-whole
returns-clause-whole c =
    let finish = read c.self.inside.moments.items 28 c.index.result.now (omega arith) c.index.ensures in
    let start = read c.self.inside.moments.items 10 c.index-2.result.now (omega arith) c.index-2.ensures in
    let f = finish-at c.self.inside.moments.items in
    let s = start-at c.self.inside.moments.items in
    let length = length_at c.self.inside.moments.items c.self.invariant.hours in
    rw (← c.self.view_is) (omega arith)

pub returns-clause-bounds : goal.returns-clause-bounds
returns-clause-bounds c =
    let finish = read c.self.inside.moments.items 28 c.index.result.now (omega arith) c.index.ensures in
    let start = read c.self.inside.moments.items 10 c.index-2.result.now (omega arith) c.index-2.ensures in
    let length = length_at c.self.inside.moments.items c.self.invariant.hours in
    (omega arith, omega arith)
