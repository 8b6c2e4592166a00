-- What becomes of a schedule with its prices.
use Rattle.std.proofs.Common.{◌≡◌, inl, inr, ℕ, true, List, [], ◌∷◌, map, Result, Ok, Err, IfOk, refl, sym, subst}
use Rattle.std.specs.Result.{IsOk}
use Rattle.gd_cost.specs.Parts.{class_words}
use Rattle.gd_question.specs.Posing.{Posed}
use Rattle.gd_certificate.specs.Checked.{Certificate, IsRight}
use Rattle.gd_certificate.specs.InForce.{ExplainsTariff}
use Rattle.gd_certificate.specs.declared.CertFault.{CertFault}
use Rattle.gd_text_part.specs.declared.fault.TextFault.{TextFault}
use Rattle.gd_text.specs.Prices.{Table, ArePrices}
use Rattle.gd_machine.specs.declared.event.Event.TheVariants as event
use Rattle.gd_machine.specs.declared.reply.Reply.{Reply as BookReply}
use Rattle.gd_machine.specs.declared.refusal.Refusal.{Refusal}
use Rattle.gd_machine.specs.Day.{Day}
use Rattle.gd_machine.specs.History.{History, is_frozen}
use Rattle.gd_machine.specs.Asking.{question}
use Rattle.gd_machine.specs.Steps.{Step}
use Rattle.gd_replies.specs.Days.{TellsUncertified}
use Rattle.gd_machine.specs.declared.call.Call.{Call}
use Rattle.gd_machine.specs.declared.call.Call.TheVariants as call
use Rattle.gd_replies.specs.declared.reply.Reply.{Reply}
use Rattle.gd_course.specs.CallRows.{Steps, IsTold, answer_rows}
use Rattle.gd_course.specs.Course.{Tariffs, certificate_of, PublishesFrozen, Settles}

-- what is told of one certificate is told of an equal one
pub explained : (q r : Posed) (s t : List ℕ) (x y : Tariffs) (f : CertFault) → q ≡ r → s ≡ t → x ≡ y
    → ExplainsTariff r.asked t (map class_words y) f → ExplainsTariff q.asked s (map class_words x) f
explained q r s t x y f a b e given =
    subst (λ (v : Posed). ExplainsTariff v.asked s (map class_words x) f) (sym a)
    (subst (λ (v : List ℕ). ExplainsTariff r.asked v (map class_words x) f) (sym b)
    (subst (λ (v : Tariffs). ExplainsTariff r.asked t (map class_words v) f) (sym e) given))

module _ (day : Day) (h : History) (moment : ℕ) (schedule : List ℕ) (prices : Tariffs) where
  module _ (c : Certificate) (answer : Result BookReply Refusal) (rows : List Reply) (after : History) (same : c ≡ certificate_of day h schedule prices) (right : IsRight c)
      (step : Step day h (event.Publish moment c) answer after) where
    published : (k : Call) → IsTold answer × (rows ≡ answer_rows k day after (event.Publish moment c) answer)
        → IsRight (certificate_of day h schedule prices) × Steps k day h (event.Publish moment (certificate_of day h schedule prices)) rows after
    published k told =
        subst (λ (v : Certificate). IsRight v × Steps k day h (event.Publish moment v) rows after) same (right, (answer, step, told.0, told.1))

    -- what was found is published
    pub found : is_frozen h ≡ true → IsTold answer × (rows ≡ answer_rows call.Settle day after (event.Publish moment c) answer) → Settles day h moment rows after
    found frozen told = let both = published call.Settle told in inr (inl (frozen, (schedule, prices, both.0, both.1)))

    -- what was offered is published
    pub offered : IsTold answer × (rows ≡ answer_rows call.Publish day after (event.Publish moment c) answer) → PublishesFrozen day h moment schedule prices rows after
    offered told = let both = published call.Publish told in inr (both.0, both.1)

  -- what was offered is not right
  pub refused : (q : Posed) (s : List ℕ) (x : Tariffs) (f : CertFault) (told : Reply) (rows : List Reply) → question day h ≡ q → schedule ≡ s → prices ≡ x
      → ExplainsTariff q.asked s (map class_words x) f → TellsUncertified q f told → rows ≡ told ∷ [] → PublishesFrozen day h moment schedule prices rows h
  refused q s x f told rows a b e given tells is =
      inl (f, told, explained (question day h) q schedule s prices x f a b e given, subst (λ (v : Posed). TellsUncertified v f told) (sym a) tells, (is, refl))

-- a table that can be made, and its prices
pub made : (r : Result Table TextFault) (prices : Tariffs) → IsOk r → IfOk r (λ table. ArePrices table prices) → (table : Table) × (r ≡ Ok table) × ArePrices table prices
made (Ok table) prices ok are = (table, refl, are)
made (Err f) prices ok are = cc
