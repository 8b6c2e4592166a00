use Rattle.std.proofs.Common.{◌<◌, ◌^◌, ℤ, List, length, map, subst, sym, ◌∙◌, IsTrue}
use Rattle.std.specs.Prelude.{pos}
use Rattle.std.proofs.lemmas.List.{length-map}
use Rattle.gd_rules.specs.Schedule.{IsAllowed}
use Rattle.gd_rules.specs.Spread.{IsBest}
use Rattle.gd_rules.specs.Tariff.{IsPricedByTariff, tariff, tariff_unit}
use Rattle.gd_scale.specs.Words.{words_fit}
use Rattle.gd_scale.specs.Sizes.{both_fit}
use Rattle.gd_rules.proofs.ByClass.{pair_unit_is}
use Rattle.gd_cost.specs.Parts.{class_words}
use Rattle.gd_cost.specs.declared.lex.Lex.{Lex}
use Rattle.gd_cost.specs.declared.pair.Pair.{Pair}
use Rattle.gd_question.specs.Posing.{Posed}
use Rattle.gd_network.specs.Arcs.{Net}
use Rattle.gd_mincost.specs.Settling.{IsSettled, potential}
use Rattle.gd_solver.proofs.Solutions.{gain_of, gains, by_tariff}
use Rattle.gd_solver.proofs.answer.best_of.Goals as goal

pub prices_of-requires-clause-small : goal.prices_of-requires-clause-small
prices_of-requires-clause-small c = λ node h.
    subst (λ (xs : List (Pair (Lex 8) (Lex 8))). IsTrue (both_fit (words_fit 8) (words_fit 8) (pos (2 ^ 39)) (potential tariff (map class_words xs) node))) (sym c.potentials.ensures)
    (c.in_ok-best.ensures.settled.small node (subst (λ m. node < m) (sym (length-map c.in_ok-best.best.potentials class_words)) (subst (λ (xs : List (Pair (Lex 8) (Lex 8))). node < length xs) c.potentials.ensures h)))

pub returns : goal.returns
returns c =
    let best = c.in_ok-best.best in
    let net = c.network-network.result.now in
    let known = c.known-2.ensures in
    let x = c.in_ok-schedule.schedule in
    let p = c.in_ok-prices.prices.items in
    let by_unit : IsSettled tariff (both_fit (words_fit 8) (words_fit 8)) tariff_unit best.question.asked best.arcs best.flow (map class_words best.potentials) =
    subst (λ u. IsSettled tariff (both_fit (words_fit 8) (words_fit 8)) u best.question.asked best.arcs best.flow (map class_words best.potentials)) pair_unit_is c.in_ok-best.ensures.settled in
    let by_question : IsSettled tariff (both_fit (words_fit 8) (words_fit 8)) tariff_unit net.question.asked best.arcs best.flow (map class_words best.potentials) =
    subst (λ (q : Posed). IsSettled tariff (both_fit (words_fit 8) (words_fit 8)) tariff_unit q.asked best.arcs best.flow (map class_words best.potentials)) (sym c.network-network.ensures.question) by_unit in
    let by_arcs : IsSettled tariff (both_fit (words_fit 8) (words_fit 8)) tariff_unit net.question.asked net.arcs best.flow (map class_words best.potentials) =
    subst (λ (n : Net). IsSettled tariff (both_fit (words_fit 8) (words_fit 8)) tariff_unit net.question.asked n best.flow (map class_words best.potentials)) (sym c.network-network.ensures.arcs) by_question in
    let by_flow : IsSettled tariff (both_fit (words_fit 8) (words_fit 8)) tariff_unit net.question.asked net.arcs c.flow.result.now (map class_words best.potentials) =
    subst (λ (f : List ℤ). IsSettled tariff (both_fit (words_fit 8) (words_fit 8)) tariff_unit net.question.asked net.arcs f (map class_words best.potentials)) (sym c.flow.ensures) by_arcs in
    let settled : IsSettled tariff (both_fit (words_fit 8) (words_fit 8)) tariff_unit net.question.asked net.arcs c.flow.result.now (map class_words c.potentials.result.now) =
    subst (λ (l : List (Pair (Lex 8) (Lex 8))). IsSettled tariff (both_fit (words_fit 8) (words_fit 8)) tariff_unit net.question.asked net.arcs c.flow.result.now (map class_words l)) (sym c.potentials.ensures) by_flow in
    let q = net.question.asked in
    let n = net.arcs in
    let flow = c.flow.result.now in
    let label = potential tariff (map class_words c.potentials.result.now) in
    let prices = map class_words p in
    let still = settled.still (gain_of q) (gains q) in
    let of = c.in_ok-schedule.ensures.schedule in
    let law = c.potentials_price.ensures in
    let priced = law.priced q n flow x (gain_of q) label prices known.question.lined known.grown known.network settled.balances settled.bounds of (gains q) still c.in_ok-prices.ensures.falls in
    let best_is = law.best q n flow x (gain_of q) label known.question.lined known.grown known.network settled.balances settled.bounds of (gains q) still in
    let here : IsAllowed q x × IsPricedByTariff q x prices × IsBest q x = (c.in_ok-schedule.ensures.allowed, by_tariff q x prices priced c.in_ok-prices.ensures.small, best_is) in
    let at_question = subst (λ (q : Posed). IsAllowed q.asked x × IsPricedByTariff q.asked x (map class_words p) × IsBest q.asked x) (c.network-network.ensures.question ∙ c.in_ok-best.ensures.question) here in
    subst (λ (l : List (Pair (Lex 8) (Lex 8))). IsAllowed c.args.feasible.question.asked x × IsPricedByTariff c.args.feasible.question.asked x (map class_words l) × IsBest c.args.feasible.question.asked x) (sym c.of.ensures) at_question
