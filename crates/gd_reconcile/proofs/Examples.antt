-- When receipts fit, at worked examples: three accepted events, and an event that is refused after two of them.
use Rattle.std.proofs.Common.{◌≡◌, ℕ, zero, suc, ◌<◌, ◌≤◌, inl, inr, List, [], ◌∷◌, slice_get, Some, refl, subst, ap, arith, lit<, lit≤}
use Rattle.std.proofs.lemmas.Option.{same_Some}
use Rattle.gd_machine.specs.declared.event.Event.{Event}
use Rattle.gd_machine.specs.declared.reply.Reply.{Reply}
use Rattle.gd_machine.specs.declared.refusal.Refusal.{Refusal}
use Rattle.gd_machine.specs.Day.{Day}
use Rattle.gd_machine.specs.History.{History}
use Rattle.gd_machine.specs.Steps.{MayRefuse}
use Rattle.gd_office_part.specs.declared.kept.Receipt.{Receipt}
use Rattle.gd_office_part.specs.declared.kept.Told.{Told}
use Rattle.gd_office_part.specs.declared.kept.Told.TheVariants.{Accepted, Refused}
use Rattle.gd_reconcile.specs.Fitting.{FitsAlone, InOrder, Fit, receipt_at, event_number}
use Rattle.gd_reconcile.proofs.Walks.{told_number}

-- what holds of each receipt, and of each two in their order
abbrev Each : (Receipt → Type 0) → List Receipt → Type 0
Each P [] = Unit {0}
Each P (r ∷ list) = P r × Each P list

abbrev Ordered : List Receipt → Type 0
Ordered [] = Unit {0}
Ordered (r ∷ list) = Each (λ s. InOrder r.told s.told) list × Ordered list

each_at : (P : Receipt → Type 0) (list : List Receipt) → Each P list → (i : ℕ) (r : Receipt) → slice_get list i ≡ Some r → P r
each_at P [] all i r at = absurd (cc)
each_at P (x ∷ list) all zero r at = subst P (same_Some x r at) all.0
each_at P (x ∷ list) all (suc i) r at = each_at P list all.1 i r at

ordered_at : (list : List Receipt) → Ordered list → (j k : ℕ) (r s : Receipt) → j < k → slice_get list j ≡ Some r → slice_get list k ≡ Some s → InOrder r.told s.told
ordered_at [] all j k r s lt p q = absurd (cc)
ordered_at (x ∷ list) all zero zero r s lt p q = absurd (omega arith)
ordered_at (x ∷ list) all zero (suc k) r s lt p q =
    subst (λ (y : Receipt). InOrder y.told s.told) (same_Some x r p) (each_at (λ t. InOrder x.told t.told) list all.0 k s q)
ordered_at (x ∷ list) all (suc j) zero r s lt p q = absurd (omega arith)
ordered_at (x ∷ list) all (suc j) (suc k) r s lt p q = ordered_at list all.1 j k r s (omega arith) p q

-- two receipts in order don't tell one number
not_twice : (t u : Told) (n : ℕ) → InOrder t u → event_number t ≡ Some n → event_number u ≡ Some n → ⊥
not_twice (Accepted m reply) (Accepted k other) n lt p q =
    let first = same_Some m n p in let second = same_Some k n q in omega arith
not_twice (Accepted m reply) (Refused k refusal) n lt p q = absurd (cc)
not_twice (Refused m refusal) u n lt p q = absurd (cc)

-- the receipts of a single list
in_one : (list : List Receipt) (a j : ℕ) (r : Receipt) → receipt_at (list ∷ []) a j ≡ Some r → (a ≡ 0) × (slice_get list j ≡ Some r)
in_one list zero j r at = (refl, at)
in_one list (suc a) j r at = absurd (cc)

fits_in_one : (day : Day) (h : History) (list : List Receipt) → Each (λ r. FitsAlone day h r.event r.told) list → Ordered list → Fit day h (list ∷ [])
fits_in_one day h list all ordered = record {
  alone = λ a j r b at. each_at (λ s. FitsAlone day h s.event s.told) list all j r (in_one list a j r at).1;
  once = λ a j b k n before end p q.
      let r = told_number (receipt_at (list ∷ []) a j) n p in
      let s = told_number (receipt_at (list ∷ []) b k) n q in
      let x = in_one list a j r.0 r.1 in
      let y = in_one list b k s.0 s.1 in
      let x0 = x.0 in
      let y0 = y.0 in
      let lt : j < k = elim before [ inl less ↦ absurd (omega arith) | inr same ↦ same.1 ] in
      not_twice r.0.told s.0.told n (ordered_at list ordered j k r.0 s.0 lt x.1 y.1) (ap event_number r.2.1) (ap event_number s.2.1);
  order = λ a j k r s lt b p q. ordered_at list ordered j k r s lt (in_one list a j r p).1 (in_one list a k s q).1;
}

module _ (day : Day) (one two three event : Event) (first second third : Reply) (refusal : Refusal) where
  history : History
  history = (one, first) ∷ (two, second) ∷ (three, third) ∷ []

  accepted : Event → ℕ → Reply → Receipt
  accepted e n reply = record { slot = 1; event = e; told = Accepted n reply }

  refused : ℕ → Receipt
  refused k = record { slot = 1; event = event; told = Refused k refusal }

  fits : MayRefuse day ((one, first) ∷ (two, second) ∷ []) event refusal
      → Fit day history ((accepted one 1 first ∷ accepted two 2 second ∷ refused 2 ∷ accepted three 3 third ∷ []) ∷ [])
  unfolding history accepted refused
  fits may = fits_in_one day history (accepted one 1 first ∷ accepted two 2 second ∷ refused 2 ∷ accepted three 3 third ∷ [])
      ((lit≤ tt, refl), ((lit≤ tt, refl), ((lit≤ tt, may), ((lit≤ tt, refl), tt))))
      ((lit< tt, (lit≤ tt, (lit< tt, tt))), ((lit≤ tt, (lit< tt, tt)), ((lit< tt, tt), (tt, tt))))

  -- a number that is altered
  past : Fit day history ((accepted one 1 first ∷ accepted two 4 second ∷ []) ∷ []) → ⊥
  unfolding history accepted
  past f = let at = (f.alone 0 1 (accepted two 4 second) (inl (lit< tt)) refl).1 in absurd (cc)

  -- a receipt that is doubled, in its list or in another one
  doubled : Fit day history ((accepted one 1 first ∷ accepted two 2 second ∷ accepted two 2 second ∷ []) ∷ []) → ⊥
  unfolding history accepted
  doubled f = f.once 0 1 0 2 2 (inr (refl, lit< tt)) (inl (lit< tt)) refl refl

  held_twice : Fit day history ((accepted two 2 second ∷ []) ∷ (accepted one 1 first ∷ accepted two 2 second ∷ []) ∷ []) → ⊥
  unfolding history accepted
  held_twice f = f.once 0 0 1 1 2 (inl (lit< tt)) (inl (lit< tt)) refl refl

  -- a refusal's length that is altered
  shortened : Fit day history ((accepted one 1 first ∷ accepted two 2 second ∷ refused 0 ∷ []) ∷ []) → ⊥
  unfolding history accepted refused
  shortened f = let order : 2 ≤ 0 = f.order 0 1 2 (accepted two 2 second) (refused 0) (lit< tt) (inl (lit< tt)) refl refl in omega arith
