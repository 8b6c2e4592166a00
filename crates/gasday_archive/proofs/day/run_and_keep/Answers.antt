use Rattle.std.proofs.Common.{subst}
use Rattle.gd_day.specs.Calls.{calls_of}
use Rattle.gd_machine.specs.History.{History}
use Rattle.gd_course.specs.Course.{Runs}
use Rattle.gasday_archive.proofs.Running.{part_of_all}
use Rattle.gasday_archive.proofs.day.run_and_keep.Goals as goal

pub returns-in_err-status-clause-part : goal.returns-in_err-status-clause-part
returns-in_err-status-clause-part g c =
    let b = c.args.book.now in
    let calls = calls_of c.args.rows.items in
    part_of_all b.day calls c.run.new.told.items c.keep_published.new.told.items c.run.new.book.history c.from_residual-in_err-status.result
    (subst (λ (h : History). Runs b.day h calls c.run.new.told.items c.run.new.book.history) c.requires.new c.in_ok-run.ensures.ok) c.in_ok-run.ensures.holds c.in_err-status.ensures.untold
