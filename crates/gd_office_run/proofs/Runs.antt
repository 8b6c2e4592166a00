-- One phase more.
use Rattle.std.proofs.Common.{◌≡◌, ◌∙◌, ℕ, ◌+◌, zero, suc, List, [], ◌∷◌, ◌++◌, length, take, sym, subst, ap, arith, vec_len, Result, Ok, Err, OnErr}
use Rattle.std.specs.List.{sum_by, range_with_len}
use Rattle.std.proofs.lemmas.List.{map-append, take-append-le, take_all, append-nil}
use Rattle.std.proofs.lemmas.List.Sums.{sum_by-append}
use Rattle.std.proofs.lemmas.List.Elements.{All-push}
use Rattle.std.proofs.lemmas.Grind.{flat_map-append}
use Rattle.gd_desk.specs.declared.desk.Desk.{Desk}
use Rattle.gd_machine.specs.Day.{Day}
use Rattle.gd_office_part.specs.declared.kept.Receipt.{Receipt}
use Rattle.gd_office_part.specs.declared.threads.Phase.{Phase}
use Rattle.gd_office_run.specs.Runs.{Outcome, Gives, HasGiven, AreNumbered, IsRun, outcome_rows, phase_rows, run_rows}
use Rattle.gd_office_run.specs.RunRows.{EndsEarly}
use Rattle.gd_replies.specs.declared.reply.Reply.{Reply}

-- how many sessions these phases had
abbrev pub sessions_in : List Outcome → ℕ
sessions_in os = sum_by (λ o. vec_len o.phase.sessions) os

numbered_more : (os : List Outcome) (first : ℕ) (o : Outcome) → AreNumbered first os → o.first ≡ first + sessions_in os
    → AreNumbered first (os ++ o ∷ [])
numbered_more [] first o all here = let is : o.first ≡ first = omega (arith, here) in (is, tt)
numbered_more (x ∷ os) first o all here =
    let split : sessions_in (x ∷ os) ≡ vec_len x.phase.sessions + sessions_in os = omega (arith, sum_by-append (λ (y : Outcome). vec_len y.phase.sessions) (x ∷ []) os) in
    (all.0, numbered_more os (first + vec_len x.phase.sessions) o all.1 (omega (arith, here, split)))

pub sessions_more : (os : List Outcome) (o : Outcome) → sessions_in (os ++ o ∷ []) ≡ sessions_in os + vec_len o.phase.sessions
sessions_more os o = omega (arith, sum_by-append (λ (y : Outcome). vec_len y.phase.sessions) os (o ∷ []))

pub run_more : (known : List Day) (slots : ℕ) (phases : List Phase) (p : Phase) (first : ℕ) (lists : List (List Receipt)) (desks : List Desk) (os : List Outcome)
    → IsRun known slots phases os → Gives known slots p lists desks → first ≡ 1 + sessions_in os
    → IsRun known slots (phases ++ p ∷ []) (os ++ record { first = first; phase = p; lists = lists; desks = desks } ∷ [])
run_more known slots phases p first lists desks os run gives number =
    let o : Outcome = record { first = first; phase = p; lists = lists; desks = desks } in (
      map-append (λ (x : Outcome). x.phase) os (o ∷ []) ∙ ap (λ (ps : List Phase). ps ++ p ∷ []) run.0,
      numbered_more os 1 o run.1 number,
      All-push (HasGiven known slots) os o run.2 gives,
    )

pub rows_more : (os : List Outcome) (first : ℕ) (p : Phase) (lists : List (List Receipt)) (desks : List Desk) (rows after : List Reply)
    → rows ≡ run_rows os → after ≡ rows ++ phase_rows first lists desks
    → after ≡ run_rows (os ++ record { first = first; phase = p; lists = lists; desks = desks } ∷ [])
rows_more os first p lists desks rows after was more =
    let o : Outcome = record { first = first; phase = p; lists = lists; desks = desks } in
    more ∙ ap (λ (l : List Reply). l ++ phase_rows first lists desks) was
    ∙ ap (λ (l : List Reply). run_rows os ++ l) (sym (append-nil (phase_rows first lists desks)))
    ∙ sym (flat_map-append outcome_rows os (o ∷ []))

-- one number more
pub range_more : (a n : ℕ) → range_with_len a (n + 1) ≡ range_with_len a n ++ (a + n) ∷ []
range_more a zero = let same : a ≡ a + 0 = omega arith in ap (λ (m : ℕ). m ∷ []) same
range_more a (suc n) =
    let next : (suc n) + 1 ≡ suc (n + 1) = omega arith in
    let same : (a + 1) + n ≡ a + (suc n) = omega arith in
    ap (range_with_len a) next
    ∙ ap (λ (l : List ℕ). a ∷ l) (range_more (a + 1) n ∙ ap (λ (m : ℕ). range_with_len (a + 1) n ++ m ∷ []) same)

-- a run of the first of these phases, which is told
pub early : (known : List Day) (slots : ℕ) (phases done left : List Phase) (os : List Outcome) (rows : List Reply) → done ++ left ≡ phases → IsRun known slots done os → rows ≡ run_rows os
    → EndsEarly known slots phases rows
early known slots phases done left os rows all run told =
    let first : take (length done) phases ≡ done = ap (take (length done)) (sym all) ∙ take-append-le (length done) done left (omega arith) ∙ take_all (length done) done (omega arith) in
    (length done, os, subst (λ (ps : List Phase). IsRun known slots ps os) (sym first) run, told)

pub on_err : {T E : Type 0} (r : Result T E) (P : Type 0) → P → OnErr r P
on_err (Ok x) P p = tt
on_err (Err e) P p = p
