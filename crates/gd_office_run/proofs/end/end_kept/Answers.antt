use Rattle.std.proofs.Common.{◌∙◌}
use Rattle.gd_office_part.specs.Sending.{lists_of}
use Rattle.gd_office_run.proofs.Ending.{closed, not_closed}
use Rattle.gd_office_run.proofs.end.end_kept.Goals as goal

pub returns-in-Ok-clause-ends : goal.returns-in-Ok-clause-ends
returns-in-Ok-clause-ends g c =
    let kept = c.args.kept.now in
    let sums = c.in-Ok.ensures.sums in
    let held = rw (c.book-in-Ok.ensures.book ∙ c.close_in.ensures.kept.1) at c.held.ensures in
    closed kept.book.day kept.book.history (lists_of c.args.lists.now) c.args.numbers.now c.args.sessions.now c.in-Ok.sums sums.0 sums.1 c.held.result held

pub returns-in-Err-clause-ends : goal.returns-in-Err-clause-ends
returns-in-Err-clause-ends g c =
    let kept = c.args.kept.now in
    let err = c.in-Err.ensures.err in
    not_closed kept.book.day kept.book.history (lists_of c.args.lists.now) c.args.numbers.now c.args.sessions.now c.in-Err.count kept.live kept.before kept.closed err.1 err.0
