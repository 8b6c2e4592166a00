use Rattle.std.proofs.Common.{◌≡◌, ◌++◌, take, All}
use Rattle.std.specs.Sync.Mutex.{mutex_guard_value}
use Rattle.gd_office_part.specs.declared.numbers.Numbers.{Numbers}
use Rattle.gd_office_part.specs.Counting.{counted_all}
use Rattle.gd_office_part.specs.Sending.{events_of, events_by}
use Rattle.gd_office_part.specs.StepResults.{Stepped}
use Rattle.gd_office_part.proofs.threads.make_block.Given as goal

abbrev pub invariant-loop-call : goal.invariant-loop-call
invariant-loop-call g l =
    record {
      slot : (mutex_guard_value l.kept).slot ≡ l.slot.number;
      sent : events_of l.receipts.items ≡ events_of l.fn.receipts.items ++ events_by l.party (take l.call-index l.calls);
      stepped : All (Stepped g.J.Days.days l.slot.number) l.fn.receipts.items → All (Stepped g.J.Days.days l.slot.number) l.receipts.items;
      counted : (start : Numbers) → l.fn.before ≡ counted_all start l.fn.receipts.items → l.numbers ≡ counted_all start l.receipts.items;
    }
