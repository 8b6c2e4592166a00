use Rattle.gd_reconcile.specs.Fitting.{lists_of}
use Rattle.gd_office.proofs.Histories.{fit_as_many, explained}
use Rattle.gd_office.proofs.reconciling.fitted.Goals as goal

pub returns-clause-ok : goal.returns-clause-ok
returns-clause-ok g c =
    let kept = c.args.kept.now in
    let told = rw c.book.ensures.book at c.fitted_by.ensures in
    fit_as_many g.J.Days.days kept.slot kept.book.day kept.book.history (lists_of c.args.lists.now) c.book.ensures.day told.history c.fitted_by.result told.length told.ok

pub returns-clause-err : goal.returns-clause-err
returns-clause-err g c =
    let kept = c.args.kept.now in
    let told = rw c.book.ensures.book at c.fitted_by.ensures in
    explained g.J.Days.days kept.slot kept.book.day kept.book.history (lists_of c.args.lists.now) c.book.ensures.day told.history c.fitted_by.result told.err
