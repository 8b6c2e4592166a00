use Rattle.gd_calendar.proofs.Calendars.{confirmed_after_received, received_rise}
use Rattle.gd_calendar.proofs.calendar.Calendar.known.Goals as goal

pub returns-clause-confirmed_after_received : goal.returns-clause-confirmed_after_received
returns-clause-confirmed_after_received c = rw (← c.self.view_is) (confirmed_after_received _ c.self.invariant.count c.self.invariant.rises)

pub returns-clause-received_rise : goal.returns-clause-received_rise
returns-clause-received_rise c = rw (← c.self.view_is) (received_rise _ c.self.invariant.count c.self.invariant.rises)
