-- The shares of slots in one phase more.
use Rattle.std.proofs.Common.{◌≡◌, ◌∙◌, ℕ, ◌+◌, List, [], ◌∷◌, ◌++◌, length, refl, sym, ap, append_assoc}
use Rattle.std.specs.List.{range_with_len}
use Rattle.std.proofs.lemmas.List.{append-nil}
use Rattle.gd_desk.specs.declared.desk.Desk.{Desk}
use Rattle.gd_office_part.specs.declared.kept.Receipt.{Receipt}
use Rattle.gd_office_part.specs.declared.numbers.Numbers.{Numbers}
use Rattle.gd_office_part.specs.declared.threads.Phase.{Phase}
use Rattle.gd_office_part.specs.declared.threads.SessionRows.{SessionRows}
use Rattle.gd_office_run.specs.declared.holding.Holding.{Holding}
use Rattle.gd_office_run.specs.Shares.{Share, nothing, plus, of_sessions, of_desk, slots_of, IsOf, Gains}
use Rattle.gd_office_run.proofs.Picking.{pick_by_slots}
use Rattle.gd_office_run.proofs.Shares.{share_is}
use Rattle.gd_office_run.specs.Runs.{Outcome, counts_of}
use Rattle.gd_office_run.specs.RunShares.{of_desks, share_in, share_of, Holds}

pub plus_assoc : (a b c : Share) → plus (plus a b) c ≡ plus a (plus b c)
plus_assoc a b c =
    share_is (plus (plus a b) c) (plus a (plus b c)) (append_assoc a.counts b.counts c.counts) (append_assoc a.lists b.lists c.lists)
    (append_assoc a.numbers b.numbers c.numbers) (append_assoc a.desk b.desk c.desk)

pub plus_nothing : (a : Share) → plus a nothing ≡ a
plus_nothing a = share_is (plus a nothing) a (append-nil a.counts) (append-nil a.lists) (append-nil a.numbers) (append-nil a.desk)

-- one desk more, with those that are left
pub desk_step : (had new target : Share) (at k : ℕ) (items rest : List Desk) (d : Desk) → items ≡ d ∷ rest
    → plus had (of_desks at items k) ≡ target → new ≡ plus had (of_desk at k d.froze d.closed) → plus new (of_desks (at + 1) rest k) ≡ target
desk_step had new target at k items rest d is was more =
    ap (λ (s : Share). plus s (of_desks (at + 1) rest k)) more ∙ plus_assoc had (of_desk at k d.froze d.closed) (of_desks (at + 1) rest k)
    ∙ ap (λ (ds : List Desk). plus had (of_desks at ds k)) (sym is) ∙ was

-- no desk is left
pub desk_end : (had target : Share) (at k : ℕ) (items : List Desk) → items ≡ [] → plus had (of_desks at items k) ≡ target → had ≡ target
desk_end had target at k items none was =
    sym (plus_nothing had) ∙ ap (λ (ds : List Desk). plus had (of_desks at ds k)) (sym none) ∙ was

-- the share in the sessions of a phase, by other names
pub sessions_are : (k : ℕ) (rows rows₁ : List SessionRows) (counts counts₁ : List Numbers) (lists : List (List Receipt)) (numbers numbers₁ : List ℕ)
    → rows ≡ rows₁ → counts ≡ counts₁ → numbers ≡ numbers₁ → of_sessions k rows counts lists numbers ≡ of_sessions k rows₁ counts₁ lists numbers₁
sessions_are k rows rows₁ counts counts₁ lists numbers numbers₁ same_rows same_counts same_numbers =
    ap (λ (r : List SessionRows). of_sessions k r counts lists numbers) same_rows
    ∙ ap (λ (c : List Numbers). of_sessions k rows₁ c lists numbers) same_counts
    ∙ ap (λ (n : List ℕ). of_sessions k rows₁ counts₁ lists n) same_numbers

-- the share of a slot in a phase, by the slots of its sessions alone
pub share_by_slots : (first : ℕ) (p other : Phase) (lists : List (List Receipt)) (desks : List Desk) (k : ℕ) → slots_of p ≡ slots_of other
    → share_in first p lists desks k ≡ share_in first other lists desks k
share_by_slots first p other lists desks k same =
    let numbers = range_with_len first (length lists) in
    ap (λ (s : Share). plus s (of_desks 0 desks k))
    (share_is (of_sessions k p.sessions.items (counts_of lists) lists numbers) (of_sessions k other.sessions.items (counts_of lists) lists numbers)
    (pick_by_slots k p.sessions.items other.sessions.items (counts_of lists) same)
    (pick_by_slots k p.sessions.items other.sessions.items lists same)
    (pick_by_slots k p.sessions.items other.sessions.items numbers same) refl)

share_more : (os : List Outcome) (o : Outcome) (k : ℕ)
    → share_of (os ++ o ∷ []) k ≡ plus (share_of os k) (share_in o.first o.phase o.lists o.desks k)
share_more [] o k = plus_nothing (share_in o.first o.phase o.lists o.desks k)
share_more (x ∷ os) o k =
    let mine = share_in x.first x.phase x.lists x.desks k in
    ap (λ (s : Share). plus mine s) (share_more os o k) ∙ sym (plus_assoc mine (share_of os k) (share_in o.first o.phase o.lists o.desks k))

pub holds_more : {J : Type 0} (slots : ℕ) (holding new : Holding J) (os : List Outcome) (first : ℕ) (p : Phase) (lists : List (List Receipt)) (desks : List Desk)
    → Holds slots holding os → IsOf slots new → Gains slots holding new (share_in first p lists desks)
    → Holds slots new (os ++ record { first = first; phase = p; lists = lists; desks = desks } ∷ [])
holds_more slots holding new os first p lists desks holds of gains =
    let o : Outcome = record { first = first; phase = p; lists = lists; desks = desks } in
    (of, λ k below. gains k below ∙ ap (λ (s : Share). plus s (share_in first p lists desks k)) (holds.1 k below) ∙ sym (share_more os o k))
