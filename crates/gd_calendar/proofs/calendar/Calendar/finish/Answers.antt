use Rattle.std.proofs.Common.{arith}
use Rattle.gd_calendar.proofs.Calendars.{read}
use Rattle.gd_calendar.proofs.Places.{finish-at}
use Rattle.gd_calendar.proofs.calendar.Calendar.finish.Goals as goal

pub returns : goal.returns
returns c =
    let finish = read c.self.inside.moments.items 28 c.index.result.now (omega arith) c.index.ensures in
    let f = finish-at c.self.inside.moments.items in
    rw (← c.self.view_is) (omega arith)
