-- A history with one accepted event more.
use Rattle.std.proofs.Common.{◌≡◌, ℕ, zero, suc, ◌<◌, ◌≤◌, List, [], ◌∷◌, ◌++◌, length, take, slice_get, Some, refl, sym, subst, ◌∙◌, ap, arith, ◌⊎◌, inl, inr}
use Rattle.std.proofs.lemmas.Bool.{false≢true}
use Rattle.std.proofs.lemmas.List.{take-append-le}
use Rattle.std.proofs.Math.Seq.{take-append_seam}
use Rattle.std.proofs.lemmas.Option.{slice_get_within}
use Rattle.gd_machine.specs.declared.event.Event.{Event}
use Rattle.gd_machine.specs.declared.reply.Reply.{Reply}
use Rattle.gd_machine.specs.Day.{Day}
use Rattle.gd_machine.specs.History.{History}
use Rattle.gd_machine.specs.Known.{IsSound}
use Rattle.std.specs.Result.{IsErr, IsErrAnd}
use Rattle.std.specs.Prelude.{Result, Ok, Err}
use Rattle.gd_machine.specs.declared.refusal.Refusal.{Refusal}
use Rattle.gd_machine.specs.Machine.{IsLegal, Passes, AllPass, IsAccepted}
use Rattle.gd_machine.specs.Steps.{MayRefuse, Step}
use Rattle.gd_machine.proofs.Sound.{sound}
use Rattle.gd_book_part.specs.declared.tables.Tables.{Tables}
use Rattle.gd_book_part.specs.Kept.{AreTablesOf}
use Rattle.gd_book.specs.Kept.{AreKept}

pub sound_kept : (day : Day) (t : Tables) (h : History) → AreKept day t h → IsSound day h
sound_kept day t h kept = sound day kept.opened h kept.legal kept.passed

-- an element of a list with one more is one of the list, or the last
pub at_more : {X : Type 0} (h : List X) (p : X) (k : ℕ) (q : X) → slice_get (h ++ p ∷ []) k ≡ Some q → ((k < length h) × (slice_get h k ≡ Some q)) ⊎ ((k ≡ length h) × (q ≡ p))
at_more [] p zero q at = inr (refl, cc)
at_more [] p (suc k) q at = absurd (let w = slice_get_within (p ∷ []) (suc k) q at in omega (arith, w))
at_more (x ∷ h) p zero q at = inl (omega arith, at)
at_more (x ∷ h) p (suc k) q at =
    elim (at_more h p k q at) [ inl a ↦ inl (omega (arith, a.0), a.1) | inr b ↦ inr (omega (arith, b.0), b.1) ]

pub legal_more : (day : Day) (h : History) (p : Event × Reply) → IsLegal day h → IsAccepted day h p → IsLegal day (h ++ p ∷ [])
legal_more day h p legal ok k q at =
    elim (at_more h p k q at) [
      | inl a ↦ let in_h = a.0 in let le : k ≤ length h = omega (arith, in_h) in subst (λ before. IsAccepted day before q) (sym (take-append-le k h (p ∷ []) le)) (legal k q a.1)
      | inr b ↦
          let whole : take k (h ++ p ∷ []) ≡ h = ap (λ n. take n (h ++ p ∷ [])) b.0 ∙ take-append_seam h (p ∷ []) in
          subst (λ before. IsAccepted day before q) (sym whole) (subst (IsAccepted day h) (sym b.1) ok)
    ]

pub pass_more : (h : History) (p : Event × Reply) → AllPass h → Passes p.0 → AllPass (h ++ p ∷ [])
pass_more h p passed ok k q at =
    elim (at_more h p k q at) [ inl a ↦ passed k q a.1 | inr b ↦ subst (λ (r : Event × Reply). Passes r.0) (sym b.1) ok ]

-- what is kept with one accepted event more
pub kept_more : (day : Day) (t u : Tables) (h : History) (p : Event × Reply) → AreKept day t h → IsAccepted day h p → Passes p.0 → AreTablesOf day u (h ++ p ∷ []) → AreKept day u (h ++ p ∷ [])
kept_more day t u h p kept accepted passed tables = record {
  opened = kept.opened;
  tables = tables;
  legal = legal_more day h p kept.legal accepted;
  passed = pass_more h p kept.passed passed;
}

-- the same history under other tables
pub kept_same : (day : Day) (t u : Tables) (h : History) → AreKept day t h → AreTablesOf day u h → AreKept day u h
kept_same day t u h kept tables = record { opened = kept.opened; tables = tables; legal = kept.legal; passed = kept.passed }

-- a refusal that is handed on
pub refused : (day : Day) (h after : History) (event : Event) (r : Result Reply Refusal) (refusal : Refusal) → IsErr r × IsErrAnd r (λ e. e ≡ refusal) → MayRefuse day h event refusal → after ≡ h → Step day h event r after
refused day h after event (Ok reply) refusal told may same = absurd (false≢true told.0)
refused day h after event (Err e) refusal told may same = (subst (MayRefuse day h event) (sym told.1) may, same)
