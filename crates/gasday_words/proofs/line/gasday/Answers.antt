use Rattle.std.proofs.Common.{◌≡◌, ◌∙◌}
use Rattle.std.proofs.lemmas.Result.{IfOk-weaker}
use Rattle.clap.specs.Words.{app_of}
use Rattle.gasday_words.specs.Meaning as spec
use Rattle.gasday_words.proofs.Commands.{and}
use Rattle.gasday_words.proofs.line.gasday.Goals as goal

pub returns : goal.returns
returns c =
    let audits : app_of c.in-Ok-with_command.with_audit ≡ _ = c.in-Ok-with_command.ensures spec.audit c.audit.ensures.app ∙ and spec.audit c.in-Ok.ensures in
    let texts : app_of c.in-Ok-with_command-2.with_text ≡ _ = c.in-Ok-with_command-2.ensures spec.book_text c.book_text.ensures.app ∙ and spec.book_text audits in
    let questions : app_of c.in-Ok-with_command-3.with_question ≡ _ = c.in-Ok-with_command-3.ensures spec.question c.question.ensures.app ∙ and spec.question texts in
    let carries : app_of c.in-Ok-with_command-4.with_carry ≡ _ = c.in-Ok-with_command-4.ensures spec.carry c.carry.ensures.app ∙ and spec.carry questions in
    IfOk-weaker c.with_command-5.result _ _ (λ r h. h spec.migrate c.migrate.ensures.app ∙ and spec.migrate carries) c.with_command-5.ensures
