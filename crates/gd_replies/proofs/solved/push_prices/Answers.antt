use Rattle.std.proofs.Common.{sym}
use Rattle.gd_system.specs.Pipeline.{names_of}
use Rattle.gd_replies.proofs.Rest.{told_more, told_all, prices_more, prices_all}
use Rattle.gd_replies.proofs.solved.push_prices.Goals as goal

pub elements-preserved : goal.elements-preserved
elements-preserved c =
    told_more c.elements.rows.items c.push_price.new.rows.items _ _ _ _ c.in_ok-push_price.ensures
    (prices_more (names_of c.args.question.now.pipeline) c.args.prices.now c.elements.element c.name.result c.price.result c.name.ensures c.price.ensures)
    c.elements.invariant

pub returns : goal.returns
returns c =
    told_all c.elements.rows.items _ _ (prices_all (names_of c.args.question.now.pipeline) c.args.prices.now c.elements.element (rw (c.element_count-element-end.ensures, sym c.requires) at c.elements-test.false)) c.elements.invariant
