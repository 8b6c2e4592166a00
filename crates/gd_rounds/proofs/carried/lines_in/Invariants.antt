use Rattle.std.proofs.Common.{◌≡◌, take}
use Rattle.gd_machine.specs.Asking.{nominations}
use Rattle.gd_machine.specs.Day.{Day}
use Rattle.gd_machine.specs.Machine.{IsLegal}
use Rattle.gd_rules.specs.Lines.{lines_of}
use Rattle.gd_rounds.proofs.carried.lines_in.Given as goal

-- the lines of the events so far
abbrev pub invariant-events : goal.invariant-events
invariant-events l = (day : Day) → IsLegal day l.history → l.keys.items ≡ lines_of (nominations day (take l.event-index l.history))
