use Rattle.std.proofs.Common.{◌≡◌, ◌∙◌, ap}
use Rattle.std.proofs.lemmas.Result.{IfOk-weaker}
use Rattle.gd_question.specs.Posing.{Posed}
use Rattle.gd_certificate.specs.Checked.{Certificate}
use Rattle.gd_machine.specs.declared.event.Event.TheVariants as event
use Rattle.gd_course.specs.Course.{certificate_of}
use Rattle.gd_course.proofs.Posting.{always}
use Rattle.gd_course.proofs.Publishing.{found}
use Rattle.gd_course.proofs.settle.publish_found.Goals as goal

pub returns-in-Ok-check_par-clause-gives : goal.returns-in-Ok-check_par-clause-gives
returns-in-Ok-check_par-clause-gives g c =
    let day = c.args.book.now.day in
    let h = c.args.book.now.history in
    let offer = c.args.offer in
    let certificate = c.in-Ok-check_par.certificate in
    let same : certificate ≡ certificate_of day h offer.schedule offer.prices =
    c.in-Ok-check_par.ensures.passes ∙ ap (λ (q : Posed). let v : Certificate = record { question = q; schedule = offer.schedule; prices = offer.prices } in v) c.in-Ok.ensures in
    let told = rw c.publish-answer.ensures.day at c.tell.ensures h (event.Publish offer.moment certificate) in
    IfOk-weaker c.tell.result _ _
    (λ rows t. found day h offer.moment offer.schedule offer.prices certificate c.publish-answer.result rows.items c.publish-answer.new.self.history same c.in-Ok-check_par.ensures.right c.publish-answer.ensures.step c.requires.frozen t)
    (told c.publish-answer.ensures.step)

pub returns-in-Ok-check_par-clause-posted : goal.returns-in-Ok-check_par-clause-posted
returns-in-Ok-check_par-clause-posted g c = always c.tell.result c.publish-answer.ensures.all_posted
