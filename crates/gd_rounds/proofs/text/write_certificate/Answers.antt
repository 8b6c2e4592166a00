use Rattle.std.proofs.Common.{ap, ◌∙◌}
use Rattle.std.specs.Prelude.{string_bytes}
use Rattle.gd_body.specs.Rows.{lines_of, price_rows, sched_rows}
use Rattle.gd_question.specs.Posing.{Posed}
use Rattle.gd_system.specs.Pipeline.{Pipeline, names_of}
use Rattle.gd_rounds.specs.Rounds.{question_text}
use Rattle.gd_rounds.proofs.Written.{three}
use Rattle.gd_rounds.proofs.text.write_certificate.Goals as goal

pub returns : goal.returns
returns c =
    let certificate = c.args.certificate.now in
    let pipeline = c.system.ensures ∙ ap (λ (q : Posed). q.pipeline) c.question-2.ensures in
    three _ (string_bytes c.args.text.now) (string_bytes c.write_question.new.text) (string_bytes c.write_schedule.new.text) (string_bytes c.write_prices.new.text) _ _ _
    (question_text certificate.question) (lines_of (sched_rows certificate.schedule)) (lines_of (price_rows (names_of certificate.question.pipeline) certificate.prices))
    c.in_ok-write_question.ensures c.in_ok-write_schedule.ensures c.write_prices.ensures
    (ap (λ q. question_text q) c.question.ensures) (ap (λ s. lines_of (sched_rows s)) c.schedule.ensures)
    (ap (λ (p : Pipeline). lines_of (price_rows (names_of p) c.prices.result.now)) pipeline ∙ ap (λ prices. lines_of (price_rows (names_of certificate.question.pipeline) prices)) c.prices.ensures)
