use Rattle.std.proofs.Common.{◌≡◌, ◌∙◌, ap, sym, inr}
use Rattle.std.proofs.lemmas.Bool.{eqb-true}
use Rattle.std.proofs.lemmas.Result.{IfOk-weaker}
use Rattle.gd_machine.proofs.Legal.{not_false}
use Rattle.gd_question.specs.Posing.{Posed}
use Rattle.gd_text.specs.Prices.{prices_of}
use Rattle.gd_machine.specs.History.{round_of}
use Rattle.gd_course.proofs.Publishing.{made}
use Rattle.gd_course.proofs.event.publish.Goals as goal

pub returns-clause-gives : goal.returns-clause-gives
returns-clause-gives g c =
    let p = c.args.book.now.day.holdings.pipeline in
    let same : c.args.round ≡ round_of c.args.book.now.history = eqb-true _ _ (not_false _ (sym c.if-ne.ensures)) ∙ c.round-current.ensures ∙ ap (λ (q : Posed). q.round) c.in-Some.ensures.1 in
    let are = rw c.system.ensures at c.in_ok-prices.ensures in
    let offers = made (prices_of c.args.group.now p) c.in_ok-prices.prices c.requires.passes.prices are in
    IfOk-weaker c.publish_frozen.result _ _
    (λ rows gives. inr (inr (c.in-Some.ensures.0, same, (c.in_ok-schedule.schedule, c.in_ok-prices.prices, (c.in_ok-schedule.ensures, offers), gives))))
    c.publish_frozen.ensures.gives
