use Rattle.std.proofs.Common.{◌≡◌, ◌++◌, length, All}
use Rattle.gd_office_part.specs.Counting.{counted_all}
use Rattle.gd_office_part.specs.Sending.{events_of, events_by}
use Rattle.gd_office_part.specs.StepResults.{Stepped}
use Rattle.gd_office_part.proofs.threads.make_calls.Given as goal

abbrev pub invariant-rest : goal.invariant-rest
invariant-rest g l =
    record {
      sent : events_of l.receipts.items ++ events_by l.start.party l.left ≡ events_by l.start.party l.calls;
      stepped : All (Stepped g.J.Days.days l.slot.number) l.receipts.items;
      counted : l.numbers ≡ counted_all l.start.numbers l.receipts.items;
    }

abbrev pub decreases-rest : goal.decreases-rest
decreases-rest g l = length l.left
