-- What the sessions of rows are sent and count.
use Rattle.std.proofs.Common.{◌≡◌, ◌∙◌, ℕ, List, [], ◌∷◌, ◌++◌, length, map, take, All, refl, sym, ap, ap₂, subst, arith, ◌+◌}
use Rattle.std.specs.List.{zip}
use Rattle.std.proofs.lemmas.List.{length-map}
use Rattle.std.proofs.Math.Seq.{take-append_seam}
use Rattle.gd_machine.specs.declared.event.Event.{Event}
use Rattle.gd_machine.specs.Day.{Day}
use Rattle.gd_office_part.specs.declared.numbers.Numbers.{Numbers}
use Rattle.gd_office_part.specs.declared.kept.Receipt.{Receipt}
use Rattle.gd_office_part.specs.Seen.{Session}
use Rattle.gd_office_part.specs.declared.threads.SessionRows.{SessionRows}
use Rattle.gd_office_part.specs.Counting.{none, counted_all}
use Rattle.gd_office_part.specs.Sending.{events_by, kept_of, AreSent, AreStepped, AreCounted}
use Rattle.gd_office_part.specs.StepResults.{Stepped}
use Rattle.gd_office_run.specs.Runs.{opened, asked, AreOfCalls, AreSteps, counts_of}

events_asked : (sessions : List Session) (rows : List SessionRows) → map opened sessions ≡ map asked rows
    → map (λ p. events_by p.0.party p.1.calls.items) (zip sessions rows) ≡ map (λ r. events_by r.party r.calls.items) rows
events_asked [] [] same = refl
events_asked [] (r ∷ rows) same = cc
events_asked (s ∷ sessions) [] same = cc
events_asked (s ∷ sessions) (r ∷ rows) same =
    let head : opened s ≡ asked r = cc in
    let here : s.party ≡ r.party = ap (λ (o : ℕ × List ℕ × Numbers). o.1) head in
    let later : map opened sessions ≡ map asked rows = cc in
    ap₂ (λ (e : List Event) (l : List (List Event)). e ∷ l)
    (ap (λ (n : List ℕ). events_by n r.calls.items) here) (events_asked sessions rows later)

pub receipts_of : (sessions : List Session) (rows : List SessionRows) (lists : List (List Receipt))
    → map opened sessions ≡ map asked rows → AreSent sessions rows lists → AreOfCalls rows lists
receipts_of sessions rows lists same sent = sent ∙ events_asked sessions rows same

-- the slots of the sessions are those of the rows
pub steps_of : (days : List Day) (sessions : List Session) (rows : List SessionRows) (lists : List (List Receipt))
    → map opened sessions ≡ map asked rows → AreStepped days sessions lists → AreSteps days rows lists
steps_of days [] [] [] same all = tt
steps_of days [] [] (l ∷ lists) same all = absurd all
steps_of days [] (r ∷ rows) lists same all = cc
steps_of days (s ∷ sessions) [] lists same all = cc
steps_of days (s ∷ sessions) (r ∷ rows) [] same all = absurd all
steps_of days (s ∷ sessions) (r ∷ rows) (l ∷ lists) same all =
    let head : opened s ≡ asked r = cc in
    let here : s.number ≡ r.slot + 1 = ap (λ (o : ℕ × List ℕ × Numbers). o.0) head in
    let later : map opened sessions ≡ map asked rows = cc in
    (subst (λ (n : ℕ). All (Stepped days n) l) here all.0, steps_of days sessions rows lists later all.1)

pub length_opened : (sessions : List Session) (rows : List SessionRows) → map opened sessions ≡ map asked rows → length sessions ≡ length rows
length_opened [] [] same = refl
length_opened [] (r ∷ rows) same = cc
length_opened (s ∷ sessions) [] same = cc
length_opened (s ∷ sessions) (r ∷ rows) same =
    let later : map opened sessions ≡ map asked rows = cc in let rest = length_opened sessions rows later in omega (arith, rest)

pub length_receipts : (rows : List SessionRows) (lists : List (List Receipt)) → AreOfCalls rows lists → length lists ≡ length rows
length_receipts [] [] same = refl
length_receipts [] (l ∷ lists) same = cc
length_receipts (r ∷ rows) [] same = cc
length_receipts (r ∷ rows) (l ∷ lists) same =
    let later : AreOfCalls rows lists = cc in let rest = length_receipts rows lists later in omega (arith, rest)

counts_none : (sessions : List Session) (rows : List SessionRows) (lists : List (List Receipt))
    → map opened sessions ≡ map asked rows → length lists ≡ length rows
    → map (λ p. counted_all p.0.numbers p.1) (zip sessions lists) ≡ counts_of lists
counts_none [] [] [] same long = refl
counts_none [] [] (l ∷ lists) same long = cc
counts_none [] (r ∷ rows) lists same long = cc
counts_none (s ∷ sessions) [] lists same long = cc
counts_none (s ∷ sessions) (r ∷ rows) [] same long = cc
counts_none (s ∷ sessions) (r ∷ rows) (l ∷ lists) same long =
    let head : opened s ≡ asked r = cc in
    let here : s.numbers ≡ none = ap (λ (o : ℕ × List ℕ × Numbers). o.2) head in
    let later : map opened sessions ≡ map asked rows = cc in
    let rest : length lists ≡ length rows = omega arith in
    ap₂ (λ (n : Numbers) (ns : List Numbers). n ∷ ns)
    (ap (λ (n : Numbers). counted_all n l) here) (counts_none sessions rows lists later rest)

-- what sessions that were opened for rows counted
pub counts_are : (sessions : List Session) (rows : List SessionRows) (lists : List (List Receipt)) (after : List Session)
    → map opened sessions ≡ map asked rows → AreOfCalls rows lists → AreCounted sessions lists after
    → map (λ s. s.numbers) after ≡ counts_of lists
counts_are sessions rows lists after same receipts counted =
    counted ∙ counts_none sessions rows lists same (length_receipts rows lists receipts)

-- sessions are as many as before, whatever they called
pub as_many : (after before : List Session) → map kept_of after ≡ map kept_of before → length after ≡ length before
as_many after before kept = sym (length-map after kept_of) ∙ ap length kept ∙ length-map before kept_of

-- what is written back to a list that is as long
pub written : {X : Type 0} (n : ℕ) (new rest : List X) → length new ≡ n → take n (new ++ rest) ≡ new
written n new rest same = ap (λ (m : ℕ). take m (new ++ rest)) (sym same) ∙ take-append_seam new rest
