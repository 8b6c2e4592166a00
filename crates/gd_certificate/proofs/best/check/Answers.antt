use Rattle.std.proofs.Common.{map, subst}
use Rattle.std.specs.Prelude.{OnOk, IfErr}
use Rattle.gd_rules.specs.Tariff.{tariff, tariff_unit}
use Rattle.gd_rules.proofs.ByClass.{pair_unit_is}
use Rattle.gd_cost.specs.Parts.{class_words}
use Rattle.gd_certificate.specs.Exact.{Passes, Explains}
use Rattle.gd_certificate.proofs.Passing as Passing
use Rattle.gd_certificate.proofs.best.check.Goals as goal

pub returns : goal.returns
returns c =
    let q = c.args.question.now.asked in
    let x = c.args.schedule.now in
    let prices = map class_words c.args.prices.now in
    let passes : OnOk c.check_by.result (Passes tariff Passing.pair_fits tariff_unit q x prices) = subst (λ u. OnOk c.check_by.result (Passes tariff Passing.pair_fits u q x prices)) pair_unit_is c.check_by.ensures.passes in
    let fault : IfErr c.check_by.result (Explains tariff Passing.pair_fits tariff_unit q x prices) = subst (λ u. IfErr c.check_by.result (Explains tariff Passing.pair_fits u q x prices)) pair_unit_is c.check_by.ensures.fault in
    record {
      passes = Passing.on_ok c.check_by.result (Passing.tariff_of q x prices) passes;
      best = Passing.on_ok c.check_by.result (Passing.best q x prices) passes;
      fault = fault;
      exact = λ a p. Passing.on_err c.check_by.result (Passing.only_memory tariff Passing.pair_fits tariff_unit q x prices (Passing.of_tariff q x prices a p)) fault;
    }
