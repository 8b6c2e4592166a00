use Rattle.std.proofs.Common.{rules, ◌≡◌, true, false, [], ◌∷◌, ◌++◌, length, sym, ap, ◌∙◌}
use Rattle.std.specs.Prelude.{◌==◌, if◌then◌else◌}
use Rattle.gd_rounds.proofs.Numbers.{lines_by, others_stay}
use Rattle.gd_rounds.proofs.carried.enter.Goals as goal

pub returns-in_ok-push : goal.returns-in_ok-push
returns-in_ok-push c day h is accepted =
    let made = c.in-Nominate in
    let told = c.in-Accepted in
    let keys = c.args.keys.now.items in
    let here : (told.line == length keys) ≡ true = search rules in
    c.in_ok-push.ensures.items ∙ sym (ap (λ b. if b then keys ++ made.key ∷ [] else keys) here)
    ∙ lines_by day h keys c.args.event.now c.args.reply.now made.moment made.party made.key made.quantity told.number told.cycle told.line made.is told.is is accepted

pub returns-else-line-len : goal.returns-else-line-len
returns-else-line-len c day h is accepted =
    let made = c.in-Nominate in
    let told = c.in-Accepted in
    let keys = c.args.keys.now.items in
    let apart : (told.line == length keys) ≡ false = search rules in
    sym (ap (λ b. if b then keys ++ made.key ∷ [] else keys) apart)
    ∙ lines_by day h keys c.args.event.now c.args.reply.now made.moment made.party made.key made.quantity told.number told.cycle told.line made.is told.is is accepted

pub returns-in_default : goal.returns-in_default
returns-in_default c day h is accepted = is ∙ sym (others_stay day h c.args.event.now c.args.reply.now (λ m p k q e. c.in_default.not-Nominate m p k q e))
