use Rattle.gd_live.specs.Seen.{at_desk}
use Rattle.gasday_live.proofs.inquiry.print_kept.Goals as goal

pub returns-in-Ok-clause-printed : goal.returns-in-Ok-clause-printed
returns-in-Ok-clause-printed g c clean =
    let it = c.in_ok-book.ensures.book clean in
    record {
      pieces = it.0;
      keeps = it.1;
      calls = c.in_ok-book.book.calls;
      stand = at_desk c.in_ok-book.book.desk;
      stands = it.2;
      holds = c.print-printed.ensures.holds;
      prints = c.in-Ok.ensures.prints;
    }
