use Rattle.std.proofs.Common.{◌≡◌, ℕ, length, vec_len, subst, rules}
use Rattle.gasday_part.specs.AnswerSeen.{answer_seen}
use Rattle.gasday_office.specs.Offices.{TellsPhases}
use Rattle.gasday_office.proofs.answer.tell_opened.Goals as goal

pub returns-in-Ok : goal.returns-in-Ok
returns-in-Ok g c =
    let long : length c.in-Ok.office.slots.items ≡ vec_len c.args.books = let s = c.in-Ok.ensures.slots in search rules in
    subst (λ (n : ℕ). TellsPhases c.args.is_strict g.J.Days.days n c.args.phases.items (answer_seen c.tell_run.result)) long c.tell_run.ensures
