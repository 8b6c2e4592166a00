use Rattle.std.proofs.Common.{map, subst}
use Rattle.std.specs.Prelude.{OnOk, IfErr}
use Rattle.gd_rules.specs.Tariff.{tariff, tariff_unit}
use Rattle.gd_rules.proofs.ByClass.{pair_unit_is}
use Rattle.gd_cost.specs.Parts.{class_words}
use Rattle.gd_certificate.specs.Exact.{Passes, Explains}
use Rattle.gd_certificate.proofs.Passing as Passing
use Rattle.gd_certificate.proofs.checked.check_in_force.Goals as goal

pub returns : goal.returns
returns g c =
    let q = c.args.question.now.asked in
    let x = c.args.schedule.now in
    let prices = map class_words c.args.prices.now in
    let passes : OnOk c.check_together.result (Passes tariff Passing.pair_fits tariff_unit q x prices) = subst (λ u. OnOk c.check_together.result (Passes tariff Passing.pair_fits u q x prices)) pair_unit_is c.check_together.ensures.passes in
    let fault : IfErr c.check_together.result (Explains tariff Passing.pair_fits tariff_unit q x prices) = subst (λ u. IfErr c.check_together.result (Explains tariff Passing.pair_fits u q x prices)) pair_unit_is c.check_together.ensures.fault in
    record {
      passes = Passing.on_ok c.check_together.result (Passing.tariff_of q x prices) passes;
      fault = fault;
      exact = λ a p. Passing.on_err c.check_together.result (Passing.only_memory tariff Passing.pair_fits tariff_unit q x prices (Passing.of_tariff q x prices a p)) fault;
    }
