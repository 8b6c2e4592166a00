use Rattle.std.proofs.Common.{◌≡◌, true, refl, sym, subst, take, ◌∙◌}
use Rattle.std.proofs.lemmas.Bool.{eqb-true}
use Rattle.std.specs.Prelude.{string_bytes}
use Rattle.gd_machine.specs.Asking.{question}
use Rattle.gd_machine.specs.History.{is_frozen}
use Rattle.gd_rounds.specs.Rounds.{IsNamed}
use Rattle.gd_rounds.proofs.Written.{here}
use Rattle.gd_rounds.proofs.round.text_at.Goals as goal

pub returns-then-is_named-clause-text : goal.returns-then-is_named-clause-text
returns-then-is_named-clause-text c =
    let walk = c.args.walk.now in
    let asked = c.in-Some.question.now in
    let place = sym c.requires.place in
    let at = sym c.cycle.ensures ∙ eqb-true c.cycle.result c.args.cycle (sym c.if-eq.ensures) in
    let named = subst (IsNamed c.args.round) c.round.ensures (c.if-is_named.ensures.0 refl) in
    let frozen = subst (λ n. is_frozen (take n walk.history) ≡ true) place c.in-Some.ensures.0 in
    let is = subst (λ n. asked ≡ question walk.day (take n walk.history)) place c.in-Some.ensures.1 in
    here walk.day walk.history c.args.cycle c.args.round c.args.place string_bytes asked frozen is at named c.frozen_text.result c.frozen_text.ensures.text
