use Rattle.std.proofs.Common.{ℕ, ◌+◌, ap, ◌∙◌}
use Rattle.gd_machine.specs.Asking.{question}
use Rattle.gd_book_part.proofs.Freezing.{freeze_more}
use Rattle.gd_book_part.proofs.tables.Tables.freeze.Goals as goal

pub returns-clause-done : goal.returns-clause-done
returns-clause-done c =
    let round = c.in-Some-Some.ensures' in
    let next = round.0 ∙ ap (λ (n : ℕ). n + 1) c.requires.kept.round in
    let asked = c.in_ok-question-in-Some-Some.ensures ∙ ap (λ (n : ℕ). record (question c.args.opening.now c.args.history.now) { round = n }) next in
    λ reply. freeze_more c.args.opening.now c.args.history.now c.args.moment reply c.args.self.now c.later_of-self.result c.in_ok-question-in-Some-Some.question c.later_of-self.ensures c.requires.kept c.requires.accepted asked
