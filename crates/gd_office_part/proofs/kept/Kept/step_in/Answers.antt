use Rattle.std.proofs.Common.{Result, Ok, Err, OnErr, length, ap}
use Rattle.gd_machine.specs.History.{History}
use Rattle.gd_office_part.proofs.kept.Kept.step_in.Goals as goal

on_any_err : {T E P : Type 0} (r : Result T E) → P → OnErr r P
on_any_err (Ok x) holds = tt
on_any_err (Err e) holds = holds

pub returns-in_err-told-clause-err : goal.returns-in_err-told-clause-err
returns-in_err-told-clause-err g c =
    on_any_err c.from_residual-in_err-told.result (rw c.in_err-told.ensures.err at c.make_call-answer.ensures.err)

pub returns-clause-told : goal.returns-clause-told
returns-clause-told g c =
    c.in_ok-told.ensures.tells c.args.self.now.book.day c.args.self.now.book.history c.args.event c.make_call-answer.new.book.history
    (ap (λ (h : History). length h) c.history.ensures.is) c.make_call-answer.ensures.step
