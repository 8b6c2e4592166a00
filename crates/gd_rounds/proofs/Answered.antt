-- What a reader of a history meets at a place.
use Rattle.std.proofs.Common.{◌≡◌, ℕ, false, List, take, Some, None, Option, sym, subst, ap, ◌∙◌}
use Rattle.std.specs.Prelude.{slice_get}
use Rattle.std.proofs.lemmas.Bool.{false≢true}
use Rattle.gd_certificate.specs.Checked.{Certificate, IsRight}
use Rattle.gd_certificate.specs.Cutting.{Members}
use Rattle.gd_certificate.specs.Explained.{IsShaped}
use Rattle.gd_machine.specs.declared.event.Event.{Event}
use Rattle.gd_machine.specs.declared.event.Event.TheVariants.{Nominate, Respond, PostCapacity, Freeze, Publish, Declare, Waive, Skip}
use Rattle.gd_machine.specs.declared.reply.Reply.{Reply}
use Rattle.gd_machine.specs.Day.{Day}
use Rattle.gd_machine.specs.History.{History}
use Rattle.gd_machine.specs.Asking.{question}
use Rattle.gd_machine.specs.Machine.{IsLegal}
use Rattle.gd_machine.proofs.ImpossibleCycles.{declared_cuts}
use Rattle.gd_machine.proofs.Legal.{published_fits}
use Rattle.gd_machine.proofs.Shapes.{shaped}
use Rattle.gd_rounds.specs.Outcomes.{Declares, Meets, Publishes}
use Rattle.gd_rounds.specs.Rounds.{answers, Asks, Certifies, IsAnswered, Refutes, Says}

met_publish : (c : Certificate) (next : Option (Event × Reply)) → Meets (Publishes c) next → (moment : ℕ) × (reply : Reply) × (next ≡ Some (Publish moment c, reply))
met_publish c None met = absurd met
met_publish c (Some (Publish moment certificate, reply)) met = (moment, reply, ap (λ (d : Certificate). Some (Publish moment d, reply)) (sym met))
met_publish c (Some (Nominate moment party key quantity, reply)) met = absurd met
met_publish c (Some (Respond moment party line end quantity, reply)) met = absurd met
met_publish c (Some (PostCapacity moment element capacity, reply)) met = absurd met
met_publish c (Some (Freeze moment, reply)) met = absurd met
met_publish c (Some (Declare moment round cut, reply)) met = absurd met
met_publish c (Some (Waive moment line, reply)) met = absurd met
met_publish c (Some (Skip moment, reply)) met = absurd met

met_declare : (m : Members) (next : Option (Event × Reply)) → Meets (Declares m) next → (moment : ℕ) × (round : ℕ) × (reply : Reply) × (next ≡ Some (Declare moment round m, reply))
met_declare m None met = absurd met
met_declare m (Some (Declare moment round cut, reply)) met = (moment, round, reply, ap (λ (d : Members). Some (Declare moment round d, reply)) (sym met))
met_declare m (Some (Nominate moment party key quantity, reply)) met = absurd met
met_declare m (Some (Respond moment party line end quantity, reply)) met = absurd met
met_declare m (Some (PostCapacity moment element capacity, reply)) met = absurd met
met_declare m (Some (Freeze moment, reply)) met = absurd met
met_declare m (Some (Publish moment certificate, reply)) met = absurd met
met_declare m (Some (Waive moment line, reply)) met = absurd met
met_declare m (Some (Skip moment, reply)) met = absurd met

-- what answers no question ends no round
pub not_answered : (next : Option (Event × Reply)) → Meets (λ event. answers event ≡ false) next → ¬ (IsAnswered next)
not_answered None met answered = met
not_answered (Some p) met answered = false≢true (sym met ∙ answered)

module _ (day : Day) (h : History) (legal : IsLegal day h) (place : ℕ) where
  -- the text of a question that nothing answered yet
  pub says_nothing : (text : List ℕ) → slice_get h place ≡ None → Asks (question day (take place h)) text → Says day (take place h) (slice_get h place) text
  says_nothing text none asks = subst (λ next. Says day (take place h) next text) (sym none) asks

  -- the text of a certificate that was published
  pub says_publish : (c : Certificate) (text : List ℕ) → Meets (Publishes c) (slice_get h place) → IsRight c → Certifies c text → Says day (take place h) (slice_get h place) text
  says_publish c text met right certifies =
      let (moment, reply, at) = met_publish c (slice_get h place) met in
      subst (λ next. Says day (take place h) next text) (sym at) (published_fits day h legal place moment c reply at, right, certifies)

  -- the set of a declare is one of the question's pipeline
  pub declare_shaped : (m : Members) → Meets (Declares m) (slice_get h place) → IsShaped day.holdings.pipeline m
  declare_shaped m met =
      let (moment, round, reply, at) = met_declare m (slice_get h place) met in
      shaped day (take place h) moment round m reply (legal place (Declare moment round m, reply) at)

  -- the text of a question that was declared to have no allowed schedule
  pub says_declare : (m : Members) (text : List ℕ) → Meets (Declares m) (slice_get h place) → Refutes (question day (take place h)) m text → Says day (take place h) (slice_get h place) text
  says_declare m text met refutes =
      let (moment, round, reply, at) = met_declare m (slice_get h place) met in
      subst (λ next. Says day (take place h) next text) (sym at) (declare_shaped m met, declared_cuts day h legal place moment round m reply at, refutes)
