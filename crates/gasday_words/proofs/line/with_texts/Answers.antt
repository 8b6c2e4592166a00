use Rattle.std.proofs.Common.{◌≡◌, ◌∙◌}
use Rattle.std.proofs.lemmas.Result.{IfOk-weaker}
use Rattle.clap.specs.Words.{app_of}
use Rattle.gasday_words.specs.Meaning as spec
use Rattle.gasday_words.proofs.Commands.{and}
use Rattle.gasday_words.proofs.line.with_texts.Goals as goal

pub returns : goal.returns
returns c =
    let checks : app_of c.in-Ok-with_command.with_check ≡ _ = c.in-Ok-with_command.ensures spec.check c.check.ensures.app ∙ and spec.check c.in-Ok.ensures in
    let solves : app_of c.in-Ok-with_command-2.with_solve ≡ _ = c.in-Ok-with_command-2.ensures spec.solve c.solve.ensures.app ∙ and spec.solve checks in
    let calendars : app_of c.in-Ok-with_command-3.with_calendar ≡ _ = c.in-Ok-with_command-3.ensures spec.calendar c.calendar.ensures.app ∙ and spec.calendar solves in
    let days : app_of c.in-Ok-with_command-4.with_day ≡ _ = c.in-Ok-with_command-4.ensures spec.day c.day.ensures.app ∙ and spec.day calendars in
    IfOk-weaker c.with_command-5.result _ _ (λ r h. h spec.office c.office.ensures.app ∙ and spec.office days) c.with_command-5.ensures
