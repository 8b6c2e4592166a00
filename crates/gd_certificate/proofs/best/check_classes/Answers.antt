use Rattle.std.proofs.Common.{map, subst}
use Rattle.std.specs.Prelude.{OnOk, IfErr}
use Rattle.gd_scale.specs.Words.{words, words_fit}
use Rattle.gd_rules.specs.Tariff.{class_unit}
use Rattle.gd_rules.proofs.ByClass.{lex_unit_is}
use Rattle.gd_cost.specs.Parts.{words_of}
use Rattle.gd_certificate.specs.Exact.{Passes, Explains}
use Rattle.gd_certificate.proofs.Passing as Passing
use Rattle.gd_certificate.proofs.best.check_classes.Goals as goal

pub returns : goal.returns
returns c =
    let q = c.args.question.now.asked in
    let x = c.args.schedule.now in
    let prices = map (words_of 8) c.args.prices.now in
    let passes : OnOk c.check_by.result (Passes (words 8) (words_fit 8) class_unit q x prices) = subst (λ u. OnOk c.check_by.result (Passes (words 8) (words_fit 8) u q x prices)) lex_unit_is c.check_by.ensures.passes in
    let fault : IfErr c.check_by.result (Explains (words 8) (words_fit 8) class_unit q x prices) = subst (λ u. IfErr c.check_by.result (Explains (words 8) (words_fit 8) u q x prices)) lex_unit_is c.check_by.ensures.fault in
    record {
      passes = Passing.on_ok c.check_by.result (Passing.classes_of q x prices) passes;
      best = Passing.on_ok c.check_by.result (Passing.best_by_classes q x prices) passes;
      fault = fault;
      exact = λ a p. Passing.on_err c.check_by.result (Passing.only_memory (words 8) (words_fit 8) class_unit q x prices (Passing.of_classes q x prices a p)) fault;
    }
