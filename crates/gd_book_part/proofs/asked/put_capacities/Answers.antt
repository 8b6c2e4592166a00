use Rattle.std.proofs.Common.{sym, ap, ◌∙◌}
use Rattle.gd_question.specs.Posing.{Posed}
use Rattle.gd_question.specs.Filling.{after_capacity}
use Rattle.gd_book_part.proofs.Asking.{no_capacity, capacity_more}
use Rattle.gd_book_part.proofs.asked.put_capacities.Goals as goal

pub loop-at-init : goal.loop-at-init
loop-at-init c = no_capacity c.args.builder.now c.requires.own

pub unreachable-requires : goal.unreachable-requires
unreachable-requires c =
    let more = capacity_more c.args.builder.now c.args.capacities.now c.loop-at.at c.index-capacities-at.result c.requires.system c.requires.limited c.loop-at-test.true c.index-capacities-at.is in
    let taken = sym c.in-Err.ensures.refused ∙ ap (λ (q : Posed). after_capacity q c.loop-at.at c.index-capacities-at.result) c.loop-at.invariant ∙ more in
    cc

pub loop-at-preserved : goal.loop-at-preserved
loop-at-preserved c =
    let more = capacity_more c.args.builder.now c.args.capacities.now c.loop-at.at c.index-capacities-at.result c.requires.system c.requires.limited c.loop-at-test.true c.index-capacities-at.is in
    let taken = sym c.in-Ok.ensures.done ∙ ap (λ (q : Posed). after_capacity q c.loop-at.at c.index-capacities-at.result) c.loop-at.invariant ∙ more in
    cc
