use Rattle.std.proofs.Common.{inl, refl}
use Rattle.gd_body.proofs.Reading.{posting_refused, posting_told}
use Rattle.gd_body.proofs.read.posting_of.Goals as goal

pub returns-in-Err : goal.returns-in-Err
returns-in-Err c =
    let asked = c.in_ok-question.field-0 in
    posting_refused c.args.rows.now asked.question asked.schedule c.in_ok-question.ensures c.system.result.now _ c.system.ensures c.in-Err.ensures

pub returns-in_default : goal.returns-in_default
returns-in_default c = inl refl

pub returns : goal.returns
returns c =
    let asked = c.in_ok-question.field-0 in
    posting_told c.args.rows.now asked.question asked.schedule c.in_ok-question.ensures c.system.result.now c.in-Ok.prices c.in-Ok-bumped_of.bumped c.book.result c.cycle.result c.round.result
    c.system.ensures c.in-Ok.ensures c.in-Ok-bumped_of.ensures c.book.ensures c.cycle.ensures c.round.ensures
