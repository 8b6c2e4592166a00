-- Time goes on: a nomination after a freeze is for a later cycle, so the nominations that count in a frozen cycle stay.
use Rattle.std.proofs.Common.{◌≡◌, ℕ, suc, zero, ◌+◌, ◌<◌, ◌≤◌, Bool, true, false, nat_le, List, [], ◌∷◌, ◌++◌, length, get_or, take, slice_get, Option, Some, None, refl, sym, subst, ap, ◌∙◌, arith, cond, ◌⊎◌, inl, inr}
use Rattle.std.specs.List.{position, filter_map}
use Rattle.std.specs.Option.{option_map, unwrap_or, is_none}
use Rattle.std.proofs.lemmas.Bool.{false≢true, leb-true, lt-leb}
use Rattle.std.proofs.lemmas.Bool.Decides.{leb_tells}
use Rattle.std.proofs.lemmas.List.Elements.{filter_map-append, filter-append}
use Rattle.std.proofs.Math.Seq.{take-suc}
use Rattle.std.proofs.lemmas.List.{take_all, append-nil}
use Rattle.std.proofs.lemmas.Option.{slice_get_cases, slice_get_within, get_or_from_slice_get}
use Rattle.gd_machine.proofs.Steps.{stamp_more}
use Rattle.std.proofs.lemmas.List.Quantifiers.{position-Some}
use Rattle.gd_rules.specs.GasDay as gas_day
use Rattle.gd_rules.specs.Lines.{until}
use Rattle.gd_lines.specs.Numbering.{nomination}
use Rattle.gd_machine.specs.declared.event.Event.{Event}
use Rattle.gd_machine.specs.declared.event.Event.TheVariants.{Nominate}
use Rattle.gd_machine.specs.declared.reply.Reply.{Reply}
use Rattle.gd_machine.specs.declared.reply.Reply.TheVariants.{Accepted}
use Rattle.gd_machine.specs.Day.{Day, cycle_at}
use Rattle.gd_machine.specs.History.{History, last_stamp, stamp_of}
use Rattle.gd_machine.specs.Asking.{nomination_of, nominations, class_in}
use Rattle.gd_machine.specs.Machine.{IsAccepted, IsLegal, tests_of}
use Rattle.gd_machine.proofs.Legal.{all_false}

-- a stamp that the received times up to cycle c lie before is that of a later cycle
pub later_cycle : (received : List ℕ) (stamp c cycle : ℕ) → ((i : ℕ) → i < c → get_or received i 0 < stamp) → gas_day.cycle_of received stamp ≡ Some cycle → c < cycle
later_cycle received stamp c cycle before e = go (position (λ last. nat_le stamp last) received) refl
  where
    told : Option ℕ → ℕ
    told None = 0
    told (Some n) = n

    is_there : Option ℕ → Bool
    is_there None = false
    is_there (Some n) = true

    go : (o : Option ℕ) → position (λ last. nat_le stamp last) received ≡ o → c < cycle
    go None p = absurd (false≢true (ap is_there (ap (option_map (λ place. place + 1)) (sym p) ∙ e)))
    go (Some i) p =
        let found = position-Some (λ last. nat_le stamp last) received i 0 p in
        let at : stamp ≤ get_or received i 0 = leb-true stamp (get_or received i 0) found.1 in
        let n : i + 1 ≡ cycle = ap told (ap (option_map (λ place. place + 1)) (sym p) ∙ e) in
        elim (leb_tells c i) as (λ m. c < cycle) [ inl low ↦ omega (arith, low.1, n) | inr high ↦ absurd (omega (arith, before i high.1, at)) ]

abbrev cycle_in : Reply → ℕ
cycle_in (Accepted number cycle line) = cycle
cycle_in reply = 0

-- an accepted event brings no nomination for a cycle up to c, where its stamp is past their times
pub brings_none : (day : Day) (h : History) (c : ℕ) (p : Event × Reply) → IsAccepted day h p → ((s cycle : ℕ) → last_stamp h ≤ s → cycle_at day s ≡ Some cycle → c < cycle) → until c (filter_map (nomination_of day) (p ∷ [])) ≡ []
brings_none day h c (Nominate moment party key quantity, Accepted number cycle line) accepted after = go (cycle_at day (stamp_of h (Nominate moment party key quantity))) refl
  where
    go : (o : Option ℕ) → cycle_at day (stamp_of h (Nominate moment party key quantity)) ≡ o → until c (nomination key cycle (class_in day key) quantity ∷ []) ≡ []
    go None e = absurd (false≢true (sym (let tests = all_false (tests_of day h (Nominate moment party key quantity)) accepted.0 in tests.0) ∙ ap is_none e))
    go (Some x) e =
        let same : cycle ≡ x = ap cycle_in accepted.1 ∙ ap (λ o. unwrap_or o 0) e in
        let late : c < x = after (stamp_of h (Nominate moment party key quantity)) x (omega arith) e in
        ap (λ b. cond b (nomination key cycle (class_in day key) quantity ∷ []) []) (lt-leb cycle c (omega (arith, same, late)))
brings_none day h c p accepted after = refl

-- one accepted pair more leaves the nominations up to c as they were
pub stays : (day : Day) (h : History) (c : ℕ) (p : Event × Reply) → IsAccepted day h p → ((s cycle : ℕ) → last_stamp h ≤ s → cycle_at day s ≡ Some cycle → c < cycle) → until c (nominations day (h ++ p ∷ [])) ≡ until c (nominations day h)
stays day h c p accepted after =
    ap (until c) (filter_map-append (nomination_of day) h (p ∷ []))
    ∙ filter-append (λ n. nat_le n.cycle c) (nominations day h) (filter_map (nomination_of day) (p ∷ []))
    ∙ ap (λ rest. until c (nominations day h) ++ rest) (brings_none day h c p accepted after)
    ∙ append-nil (until c (nominations day h))

pub taken : (h : History) (m : ℕ) (p : Event × Reply) → slice_get h m ≡ Some p → take (suc m) h ≡ take m h ++ p ∷ []
taken h m p at = take-suc h m p (slice_get_within h m p at) ∙ ap (λ q. take m h ++ q ∷ []) (get_or_from_slice_get h m p p at)

-- up to pair m the nominations up to c are those up to pair k, and the stamp has not fallen
abbrev pub Stays : Day → History → ℕ → ℕ → ℕ → Type 0
Stays day h c k m = (until c (nominations day (take m h)) ≡ until c (nominations day (take k h))) × (last_stamp (take k h) ≤ last_stamp (take m h))

stays_more : (day : Day) (h : History) → IsLegal day h → (c k : ℕ) → ((s cycle : ℕ) → last_stamp (take k h) ≤ s → cycle_at day s ≡ Some cycle → c < cycle) → (m : ℕ) → Stays day h c k m → Stays day h c k (suc m)
stays_more day h legal c k after m so_far = go (slice_get_cases h m).1
  where
    go : ((p : Event × Reply) × (m < length h) × (slice_get h m ≡ Some p) × (get_or h m p ≡ p)) ⊎ ((length h ≤ m) × (slice_get h m ≡ None)) → Stays day h c k (suc m)
    go (inl q) =
        let more = taken h m q.0 q.2 in
        let same = stays day (take m h) c q.0 (legal m q.0 q.2) (λ s cycle reached e. after s cycle (omega (arith, so_far.1, reached)) e) in
        let stamp : last_stamp (take m h) ≤ last_stamp (take m h ++ q.0 ∷ []) = subst (λ t. last_stamp (take m h) ≤ t) (sym (stamp_more (take m h) q.0)) (omega arith) in
        (ap (λ g. until c (nominations day g)) more ∙ same ∙ so_far.0, subst (λ g. last_stamp (take k h) ≤ last_stamp g) (sym more) (omega (arith, so_far.1, stamp)))
    go (inr q) =
        let past : take m h ≡ take (suc m) h = take_all m h q.0 ∙ sym (take_all (suc m) h (omega (arith, q.0))) in
        (ap (λ g. until c (nominations day g)) (sym past) ∙ so_far.0, subst (λ g. last_stamp (take k h) ≤ last_stamp g) past so_far.1)

-- after pair k, at which the stamp is past the times of the cycles up to c, no nomination is accepted for one of them
pub stays_for_good : (day : Day) (h : History) → IsLegal day h → (c k : ℕ) → ((s cycle : ℕ) → last_stamp (take k h) ≤ s → cycle_at day s ≡ Some cycle → c < cycle) → (n : ℕ) → Stays day h c k (n + k)
stays_for_good day h legal c k after zero = subst (λ m. Stays day h c k m) (same k) (refl, omega arith)
  where
    same : (k : ℕ) → k ≡ 0 + k
    same k = omega arith
stays_for_good day h legal c k after (suc n) = subst (λ m. Stays day h c k m) (next n k) (stays_more day h legal c k after (n + k) (stays_for_good day h legal c k after n))
  where
    next : (n k : ℕ) → suc (n + k) ≡ suc n + k
    next n k = omega arith
