use Rattle.std.proofs.Common.{sym, subst}
use Rattle.std.specs.Prelude.{slice_get, string_bytes}
use Rattle.gd_certificate.specs.Explained.{IsShaped}
use Rattle.gd_rounds.specs.Outcomes.{Declares, Meets, Publishes}
use Rattle.gd_rounds.specs.Rounds.{Refutes}
use Rattle.gd_rounds.proofs.Answered.{declare_shaped, says_declare, says_publish}
use Rattle.gd_rounds.proofs.round.frozen_text.Goals as goal

pub cut_text-requires : goal.cut_text-requires
cut_text-requires c =
    let walk = c.args.walk.now in
    let cut = c.in-Declared.cut.now in
    let met = subst (λ h. Meets (Declares cut) (slice_get h c.args.place)) c.history.ensures.is c.in-Declared.ensures in
    subst (λ q. IsShaped q.pipeline cut) (sym c.requires.question) (declare_shaped walk.day walk.history c.history.ensures.legal c.args.place cut met)

pub returns-in_ok-certificate_text-in-Published-clause-text : goal.returns-in_ok-certificate_text-in-Published-clause-text
returns-in_ok-certificate_text-in-Published-clause-text c =
    let walk = c.args.walk.now in
    let certificate = c.in-Published.certificate.now in
    let text = string_bytes c.in_ok-certificate_text-in-Published.field-0 in
    let met = subst (λ h. Meets (Publishes certificate) (slice_get h c.args.place)) c.history.ensures.is c.in-Published.ensures in
    says_publish walk.day walk.history c.history.ensures.legal c.args.place certificate text met c.known.ensures.right c.in_ok-certificate_text-in-Published.ensures

pub returns-in_ok-cut_text-in-Declared-clause-text : goal.returns-in_ok-cut_text-in-Declared-clause-text
returns-in_ok-cut_text-in-Declared-clause-text c =
    let walk = c.args.walk.now in
    let cut = c.in-Declared.cut.now in
    let text = string_bytes c.in_ok-cut_text-in-Declared.field-0 in
    let met = subst (λ h. Meets (Declares cut) (slice_get h c.args.place)) c.history.ensures.is c.in-Declared.ensures in
    let says = subst (λ q. Refutes q cut text) c.requires.question c.in_ok-cut_text-in-Declared.ensures in
    says_declare walk.day walk.history c.history.ensures.legal c.args.place cut text met says
