use Rattle.std.proofs.Common.{◌∙◌, ap, sym}
use Rattle.std.proofs.lemmas.List.{drop_all}
use Rattle.gd_body.proofs.Rising.{rises_from, rises_from_none, rises_more, goes_on, ends_there}
use Rattle.gd_body.proofs.read.rises_within.Goals as goal

pub lines-init : goal.lines-init
lines-init c = rises_from_none c.args.count c.args.bumped.now

pub returns-then-not-is_within : goal.returns-then-not-is_within
returns-then-not-is_within c =
    let more = rises_more c.args.bumped.now c.lines.line-index c.lines-item.result c.lines.first c.args.count c.lines-test.true c.lines-item.is in
    ends_there _ _ _ (sym more ∙ c.lines.invariant) (sym c.if-not-is_within.ensures)

pub lines-preserved : goal.lines-preserved
lines-preserved c =
    let more = rises_more c.args.bumped.now c.lines.line-index c.lines-item.result c.lines.first c.args.count c.lines-test.true c.lines-item.is in
    goes_on _ _ _ (sym more ∙ c.lines.invariant) (sym c.if-not-is_within.ensures)

pub returns : goal.returns
returns c = ap (rises_from c.lines.first c.args.count) (sym (drop_all c.lines.line-index c.args.bumped.now c.lines-test.false)) ∙ c.lines.invariant
