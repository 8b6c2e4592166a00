-- The first receipt that does not fit is the first that is out of order or that the machine could not answer.
use Rattle.std.proofs.Common.{◌≡◌, ℕ, ◌+◌, ◌<◌, ◌⊎◌, inl, inr, List, length, Option, Some, None, IsNone, IfSome, refl, subst}
use Rattle.std.specs.Option.{MatchOption}
use Rattle.std.proofs.lemmas.Option.{same_Some}
use Rattle.gd_machine.specs.declared.event.Event.{Event}
use Rattle.gd_machine.specs.Day.{Day}
use Rattle.gd_machine.specs.History.{History}
use Rattle.gd_office_part.specs.declared.kept.Receipt.{Receipt}
use Rattle.gd_office_part.specs.declared.kept.Told.{Told}
use Rattle.gd_office_part.specs.declared.kept.Told.TheVariants.{Accepted, Refused}
use Rattle.gd_reconcile.specs.declared.mismatch.Mismatch.{Mismatch}
use Rattle.gd_reconcile.specs.Fitting.{FitsAlone, FitTo, Fit, IsFirstMisfit, Before, receipt_at}
use Rattle.gd_reconcile.specs.Walking.{Stands, StandTo, IsFirstDisorder}
use Rattle.gd_reconcile.specs.Answering.{Answers, AnswerTo, IsFirstWrong, IsBefore}
use Rattle.gd_reconcile.proofs.Walks.{before_end, list_within}

alone_from : (day : Day) (h : History) (event : Event) (t : Told) → Stands h event t → Answers day h event t → FitsAlone day h event t
alone_from day h event (Accepted n reply) stands answers = stands
alone_from day h event (Refused k refusal) stands answers = (stands, answers stands)

stands_from : (day : Day) (h : History) (event : Event) (t : Told) → FitsAlone day h event t → Stands h event t
stands_from day h event (Accepted n reply) fits = fits
stands_from day h event (Refused k refusal) fits = fits.0

answers_from : (day : Day) (h : History) (event : Event) (t : Told) → FitsAlone day h event t → Answers day h event t
answers_from day h event (Accepted n reply) fits = tt
answers_from day h event (Refused k refusal) fits = λ within. fits.1

module _ (day : Day) (h : History) (lists : List (List Receipt)) where
  abbrev WithinTo : ℕ → ℕ → ℕ → ℕ → Type 0
  WithinTo l i m k = (a j : ℕ) → Before a j l i → Before a j m k

  fit_from : (l i : ℕ) → StandTo h lists l i → AnswerTo day h lists l i → FitTo day h lists l i
  fit_from l i s answers = record {
    alone = λ a j r b at. alone_from day h r.event r.told (s.alone a j r b at) (answers a j r b at);
    once = s.once;
    order = s.order;
  }

  stand_from : (l i : ℕ) → FitTo day h lists l i → StandTo h lists l i
  stand_from l i f = record {
    alone = λ a j r b at. stands_from day h r.event r.told (f.alone a j r b at);
    once = f.once;
    order = f.order;
  }

  answer_from : (l i : ℕ) → FitTo day h lists l i → AnswerTo day h lists l i
  answer_from l i f = λ a j r b at. answers_from day h r.event r.told (f.alone a j r b at)

  stand_less : (l i m k : ℕ) → WithinTo l i m k → StandTo h lists m k → StandTo h lists l i
  stand_less l i m k within s = record {
    alone = λ a j r b at. s.alone a j r (within a j b) at;
    once = λ a j b k' n first second. s.once a j b k' n first (within b k' second);
    order = λ a j k' r t lt b. s.order a j k' r t lt (within a k' b);
  }

  answer_less : (l i m k : ℕ) → WithinTo l i m k → AnswerTo day h lists m k → AnswerTo day h lists l i
  answer_less l i m k within s = λ a j r b at. s a j r (within a j b) at

  -- what is before a place, up to the end or to the place that was found
  stand_before : (one : Option Mismatch) (m : Mismatch) → m.list < length lists → MatchOption one (StandTo h lists (length lists) 0) (λ x. IsFirstDisorder h lists x.list x.index) → ((a j : ℕ) → Before a j m.list m.index → IsBefore a j one) → StandTo h lists m.list m.index
  stand_before None m lt s within = stand_less m.list m.index (length lists) 0 (λ a j b. before_end (length lists) a j m.list m.index lt b) s
  stand_before (Some x) m lt s within = stand_less m.list m.index x.list x.index within s.before

  answer_before : (other : Option Mismatch) (m : Mismatch) → m.list < length lists → MatchOption other (AnswerTo day h lists (length lists) 0) (λ x. IsFirstWrong day h lists x.list x.index) → ((a j : ℕ) → Before a j m.list m.index → IsBefore a j other) → AnswerTo day h lists m.list m.index
  answer_before None m lt s within = answer_less m.list m.index (length lists) 0 (λ a j b. before_end (length lists) a j m.list m.index lt b) s
  answer_before (Some x) m lt s within = answer_less m.list m.index x.list x.index within s.before

  here : {X : Type 0} (P : Type 0) (Q : X → Type 0) (o : Option X) (m : X) → o ≡ Some m → MatchOption o P Q → Q m
  here P Q None m e s = absurd (cc)
  here P Q (Some x) m e s = subst Q (same_Some x m e) s

  -- where a part of what fits fails, the whole fails
  fails : (m : Mismatch) → (r : Receipt) × (receipt_at lists m.list m.index ≡ Some r) → FitTo day h lists m.list m.index → (FitTo day h lists m.list (m.index + 1) → ⊥) → IsFirstMisfit day h lists m.list m.index
  fails m there fit next =
      let lt = list_within lists m.list m.index there.0 there.1 in
      let within : WithinTo m.list (m.index + 1) (length lists) 0 = λ a j b. before_end (length lists) a j m.list (m.index + 1) lt b in
      record {
        there = there;
        before = fit;
        breaks = next;
        misfit = λ all. next (fit_from m.list (m.index + 1)
            (stand_less m.list (m.index + 1) (length lists) 0 within (stand_from (length lists) 0 all))
            (answer_less m.list (m.index + 1) (length lists) 0 within (answer_from (length lists) 0 all)));
      }

  pub first_misfit : (one other found : Option Mismatch)
      → MatchOption one (StandTo h lists (length lists) 0) (λ m. IsFirstDisorder h lists m.list m.index)
      → MatchOption other (AnswerTo day h lists (length lists) 0) (λ m. IsFirstWrong day h lists m.list m.index)
      → (IsNone found → (one ≡ None) × (other ≡ None))
      → IfSome found (λ m. ((one ≡ Some m) ⊎ (other ≡ Some m)) × ((a j : ℕ) → Before a j m.list m.index → IsBefore a j one × IsBefore a j other))
      → MatchOption found (Fit day h lists) (λ m. IsFirstMisfit day h lists m.list m.index)
  first_misfit one other None s t none some =
      let e = none refl in
      fit_from (length lists) 0
      (subst (λ (o : Option Mismatch). MatchOption o (StandTo h lists (length lists) 0) (λ m. IsFirstDisorder h lists m.list m.index)) e.0 s)
      (subst (λ (o : Option Mismatch). MatchOption o (AnswerTo day h lists (length lists) 0) (λ m. IsFirstWrong day h lists m.list m.index)) e.1 t)
  first_misfit one other (Some m) s t none some =
      elim some.0 [
        | inl e ↦
            let d : IsFirstDisorder h lists m.list m.index = here (StandTo h lists (length lists) 0) (λ x. IsFirstDisorder h lists x.list x.index) one m e s in
            let lt = list_within lists m.list m.index d.there.0 d.there.1 in
            fails m d.there
            (fit_from m.list m.index d.before (answer_before other m lt t (λ a j b. (some.1 a j b).1)))
            (λ f. d.breaks (stand_from m.list (m.index + 1) f))
        | inr e ↦
            let d : IsFirstWrong day h lists m.list m.index = here (AnswerTo day h lists (length lists) 0) (λ x. IsFirstWrong day h lists x.list x.index) other m e t in
            let lt = list_within lists m.list m.index d.there.0 d.there.1 in
            fails m d.there
            (fit_from m.list m.index (stand_before one m lt s (λ a j b. (some.1 a j b).0)) d.before)
            (λ f. d.breaks (answer_from m.list (m.index + 1) f))
      ]
