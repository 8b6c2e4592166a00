-- What is asked of the threads, session by session, and what comes of it.
use Rattle.std.proofs.Common.{◌≡◌, ◌∙◌, ℕ, ◌+◌, ◌<◌, ◌≤◌, List, [], ◌∷◌, ◌++◌, length, map, take, drop, get_or, All, refl, sym, ap, ap₂, subst, append_assoc, arith}
use Rattle.std.specs.List.{zip}
use Rattle.std.proofs.lemmas.List.{take_more, take_all, take-append-drop, get_or-map, map-append, length-map}
use Rattle.std.proofs.lemmas.List.Elements.{All-head, All-tail}
use Rattle.std.proofs.lemmas.Slice.Zip.{length-zip, get_or-zip}
use Rattle.std.specs.Global.{Vec}
use Rattle.gd_machine.specs.declared.event.Event.{Event}
use Rattle.gd_office_part.specs.declared.call.Call.{Call}
use Rattle.gd_machine.specs.Day.{Day}
use Rattle.gd_office_part.specs.declared.numbers.Numbers.{Numbers}
use Rattle.gd_office_part.specs.declared.kept.Receipt.{Receipt}
use Rattle.gd_office_part.specs.Seen.{Session}
use Rattle.gd_office_part.specs.declared.sent.Sent.{Sent}
use Rattle.gd_office_part.specs.declared.threads.SessionRows.{SessionRows}
use Rattle.gd_office_part.specs.declared.threads.Start.{Start}
use Rattle.gd_office_part.specs.Calls.{event_of}
use Rattle.gd_office_part.specs.Counting.{counted_all}
use Rattle.gd_office_part.specs.Sending.{events_of, events_by, asked, asked_all, sent_as, start_of, AreSent, AreStepped, IsStepped, AreCounted}
use Rattle.gd_office_part.specs.StepResults.{Stepped}

pub length-asked : (starts : List Start) (rows : List SessionRows) → length starts ≡ length rows → length (asked_all starts rows) ≡ length rows
length-asked [] [] long = refl
length-asked [] (row ∷ rows) long = cc
length-asked (start ∷ starts) [] long = cc
length-asked (start ∷ starts) (row ∷ rows) long =
    let rest : length starts ≡ length rows = omega arith in
    let more = length-asked starts rows rest in
    omega (arith, more)

-- one more thread is asked for one more session
pub asked_more : (starts : List Start) (rows : List SessionRows) (at : ℕ) (start : Start) (row : SessionRows)
    → length starts ≡ length rows → at < length rows → start ≡ get_or starts at start → row ≡ get_or rows at row
    → take (at + 1) (asked_all starts rows) ≡ take at (asked_all starts rows) ++ asked start.slot start.party start.numbers row.calls.items ∷ []
asked_more starts rows at start row long within is_start is_row =
    let f : Start × SessionRows → Numbers × List Event × ℕ = λ p. asked p.0.slot p.0.party p.0.numbers p.1.calls.items in
    let first : at < length starts = omega arith in
    let pairs : at < length (zip starts rows) = omega (arith, length-zip starts rows) in
    let pair : get_or (zip starts rows) at (start, row) ≡ (start, row) =
    get_or-zip starts rows at (start, row) first within ∙ ap₂ (λ (a : Start) (b : SessionRows). (a, b)) (sym is_start) (sym is_row) in
    take_more (asked_all starts rows) at (f (start, row)) (omega (arith, length-asked starts rows long))
    ∙ ap (λ (q : Numbers × List Event × ℕ). take at (asked_all starts rows) ++ q ∷ [])
    (get_or-map f (zip starts rows) at (start, row) (f (start, row)) pairs ∙ ap f pair)

-- so it promises what is asked
pub promised_more : {H A : Type 0} (f : H → A) (promises : List H) (promise : H) (all : List A) (at : ℕ) (one : A)
    → map f promises ≡ take at all → f promise ≡ one → take (at + 1) all ≡ take at all ++ one ∷ []
    → map f (promises ++ promise ∷ []) ≡ take (at + 1) all
promised_more {A = A} f promises promise all at one before is more =
    map-append f promises (promise ∷ []) ∙ ap₂ (λ (l : List A) (a : A). l ++ a ∷ []) before is ∙ sym more

-- all are asked
pub asked_whole : (starts : List Start) (rows : List SessionRows) (at : ℕ) → length starts ≡ length rows → length rows ≤ at → take at (asked_all starts rows) ≡ asked_all starts rows
asked_whole starts rows at long end = take_all at (asked_all starts rows) (omega (arith, length-asked starts rows long))

pub events-asked : (sessions : List Session) (rows : List SessionRows)
    → map (λ q. q.1) (asked_all (map start_of sessions) rows) ≡ map (λ p. events_by p.0.party p.1.calls.items) (zip sessions rows)
events-asked [] rows = refl
events-asked (s ∷ sessions) [] = refl
events-asked (s ∷ sessions) (row ∷ rows) =
    ap (λ (l : List (List Event)). events_by s.party row.calls.items ∷ l) (events-asked sessions rows)

-- what a thread hands back is what it was asked, in steps of the book of its slot
pub sent_is : (sent : Sent) (slot : ℕ) (start : Numbers) (receipts : Vec Receipt) (party : List ℕ) (calls : List Call)
    → sent.slot ≡ slot → sent.start ≡ start → sent.receipts ≡ receipts → events_of receipts.items ≡ events_by party calls → sent_as sent ≡ asked slot party start calls
sent_is sent slot start receipts party calls same begun all events =
    let told : events_of sent.receipts.items ≡ events_by party calls = ap (λ (v : Vec Receipt). events_of v.items) all ∙ events in
    λ i. (begun i, told i, same i)

pub sent_steps : (days : List Day) (sent : Sent) (slot : ℕ) (receipts : Vec Receipt) → sent.slot ≡ slot → sent.receipts ≡ receipts → All (Stepped days slot) receipts.items → IsStepped days sent
sent_steps days sent slot receipts same all steps =
    subst (λ (n : ℕ). All (Stepped days n) sent.receipts.items) (sym same) (subst (λ (v : Vec Receipt). All (Stepped days slot) v.items) (sym all) steps)

pub events-sent : (all : List Sent) → map (λ q. q.1) (map sent_as all) ≡ map events_of (map (λ s. s.receipts.items) all)
events-sent [] = refl
events-sent (x ∷ all) = ap (λ (l : List (List Event)). events_of x.receipts.items ∷ l) (events-sent all)

pub starts-asked : (sessions : List Session) (rows : List SessionRows) → length sessions ≡ length rows
    → map (λ q. q.0) (asked_all (map start_of sessions) rows) ≡ map (λ s. s.numbers) sessions
starts-asked [] rows long = refl
starts-asked (s ∷ sessions) [] long = cc
starts-asked (s ∷ sessions) (row ∷ rows) long =
    let rest : length sessions ≡ length rows = omega arith in
    ap (λ (l : List Numbers). s.numbers ∷ l) (starts-asked sessions rows rest)

pub slots-asked : (sessions : List Session) (rows : List SessionRows) → length sessions ≡ length rows
    → map (λ q. q.2) (asked_all (map start_of sessions) rows) ≡ map (λ s. s.number) sessions
slots-asked [] rows long = refl
slots-asked (s ∷ sessions) [] long = cc
slots-asked (s ∷ sessions) (row ∷ rows) long =
    let rest : length sessions ≡ length rows = omega arith in
    ap (λ (l : List ℕ). s.number ∷ l) (slots-asked sessions rows rest)

-- numbers after receipts are counted from those before them
pub numbers-counted : (all : List Sent) (sessions : List Session) → map (λ q. q.0) (map sent_as all) ≡ map (λ s. s.numbers) sessions
    → map (λ s. s.numbers) all ≡ map (λ p. counted_all p.0.numbers p.1) (zip sessions (map (λ s. s.receipts.items) all))
numbers-counted [] [] same = refl
numbers-counted [] (s ∷ sessions) same = cc
numbers-counted (x ∷ all) [] same = cc
numbers-counted (x ∷ all) (s ∷ sessions) same =
    let here : x.start ≡ s.numbers = cc in
    let later : map (λ (q : Numbers × List Event × ℕ). q.0) (map sent_as all) ≡ map (λ (t : Session). t.numbers) sessions = cc in
    ap₂ (λ (n : Numbers) (l : List Numbers). n ∷ l)
    (x.counted ∙ ap (λ (n : Numbers). counted_all n x.receipts.items) here)
    (numbers-counted all sessions later)

-- so that their receipts are of steps of the books of the sessions' slots
pub all-stepped : (days : List Day) (all : List Sent) (sessions : List Session) → map (λ q. q.2) (map sent_as all) ≡ map (λ s. s.number) sessions
    → All (IsStepped days) all → AreStepped days sessions (map (λ s. s.receipts.items) all)
all-stepped days [] [] same each = tt
all-stepped days [] (s ∷ sessions) same each = cc
all-stepped days (x ∷ all) [] same each = cc
all-stepped days (x ∷ all) (s ∷ sessions) same each =
    let here : x.slot ≡ s.number = cc in
    let later : map (λ (q : Numbers × List Event × ℕ). q.2) (map sent_as all) ≡ map (λ (t : Session). t.number) sessions = cc in
    (subst (λ (n : ℕ). All (Stepped days n) x.receipts.items) here (All-head (IsStepped days) x all each), all-stepped days all sessions later (All-tail (IsStepped days) x all each))

module _ (sessions : List Session) (starts : List Start) (rows : List SessionRows) (all : List Sent)
    (first : starts ≡ map start_of sessions) (sent : map sent_as all ≡ asked_all starts rows) where
  pub length-sent : length sessions ≡ length rows → length all ≡ length rows
  length-sent long =
      let same : length starts ≡ length rows = ap (λ (l : List Start). length l) first ∙ length-map sessions start_of ∙ long in
      sym (length-map all sent_as) ∙ ap (λ (l : List (Numbers × List Event × ℕ)). length l) sent ∙ length-asked starts rows same

  -- as many numbers come back as there are sessions
  pub numbers-fit : (numbers : List Numbers) → length sessions ≡ length rows → numbers ≡ map (λ s. s.numbers) all → length sessions ≡ length numbers
  numbers-fit numbers long is =
      long ∙ sym (length-sent long)
      ∙ sym (ap (λ (l : List Numbers). length l) is ∙ length-map all (λ (s : Sent). s.numbers))

  pub are_sent : (lists : List (List Receipt)) → lists ≡ map (λ s. s.receipts.items) all → AreSent sessions rows lists
  are_sent lists is =
      ap (λ (l : List (List Receipt)). map events_of l) is
      ∙ sym (events-sent all)
      ∙ ap (λ (l : List (Numbers × List Event × ℕ)). map (λ (q : Numbers × List Event × ℕ). q.1) l) sent
      ∙ ap (λ (l : List Start). map (λ (q : Numbers × List Event × ℕ). q.1) (asked_all l rows)) first
      ∙ events-asked sessions rows

  pub are_stepped : (days : List Day) (lists : List (List Receipt)) → length sessions ≡ length rows → lists ≡ map (λ s. s.receipts.items) all
      → All (IsStepped days) all → AreStepped days sessions lists
  are_stepped days lists long is each =
      let slots_are : map (λ (q : Numbers × List Event × ℕ). q.2) (map sent_as all) ≡ map (λ (s : Session). s.number) sessions =
      ap (λ (l : List (Numbers × List Event × ℕ)). map (λ (q : Numbers × List Event × ℕ). q.2) l) sent
      ∙ ap (λ (l : List Start). map (λ (q : Numbers × List Event × ℕ). q.2) (asked_all l rows)) first
      ∙ slots-asked sessions rows long in
      subst (AreStepped days sessions) (sym is) (all-stepped days all sessions slots_are each)

  pub are_counted : (lists : List (List Receipt)) (after : List Session) → length sessions ≡ length rows
      → lists ≡ map (λ s. s.receipts.items) all → map (λ s. s.numbers) after ≡ map (λ s. s.numbers) all → AreCounted sessions lists after
  are_counted lists after long is same =
      let starts_are : map (λ (q : Numbers × List Event × ℕ). q.0) (map sent_as all) ≡ map (λ (s : Session). s.numbers) sessions =
      ap (λ (l : List (Numbers × List Event × ℕ)). map (λ (q : Numbers × List Event × ℕ). q.0) l) sent
      ∙ ap (λ (l : List Start). map (λ (q : Numbers × List Event × ℕ). q.0) (asked_all l rows)) first
      ∙ starts-asked sessions rows long in
      same ∙ numbers-counted all sessions starts_are
      ∙ ap (λ (l : List (List Receipt)). map (λ (p : Session × List Receipt). counted_all p.0.numbers p.1) (zip sessions l)) (sym is)

-- one more call of a block has its receipt
pub sent_more : (before receipts : List Receipt) (r : Receipt) (party : List ℕ) (calls : List Call) (at : ℕ) (call : Call) → at < length calls → call ≡ get_or calls at call
    → r.event ≡ event_of party call → events_of receipts ≡ events_of before ++ events_by party (take at calls)
    → events_of (receipts ++ r ∷ []) ≡ events_of before ++ events_by party (take (at + 1) calls)
sent_more before receipts r party calls at call within is event was =
    let more : events_by party (take (at + 1) calls) ≡ events_by party (take at calls) ++ event_of party call ∷ [] =
    ap (events_by party) (take_more calls at call within ∙ ap (λ (c : Call). take at calls ++ c ∷ []) (sym is)) ∙ map-append (event_of party) (take at calls) (call ∷ []) in
    map-append (λ (x : Receipt). x.event) receipts (r ∷ []) ∙ ap₂ (λ (l : List Event) (e : Event). l ++ e ∷ []) was event
    ∙ append_assoc (events_of before) (events_by party (take at calls)) (event_of party call ∷ []) ∙ ap (λ (l : List Event). events_of before ++ l) (sym more)

-- one more block of calls has its receipts
pub block_sent : (before receipts : List Receipt) (party : List ℕ) (left : List Call) (size : ℕ) (all : List Event)
    → events_of receipts ≡ events_of before ++ events_by party (take size left) → events_of before ++ events_by party left ≡ all
    → events_of receipts ++ events_by party (drop size left) ≡ all
block_sent before receipts party left size all block was =
    let whole : events_by party (take size left) ++ events_by party (drop size left) ≡ events_by party left =
    sym (map-append (event_of party) (take size left) (drop size left)) ∙ ap (events_by party) (take-append-drop size left) in
    ap (λ (l : List Event). l ++ events_by party (drop size left)) block
    ∙ append_assoc (events_of before) (events_by party (take size left)) (events_by party (drop size left)) ∙ ap (λ (l : List Event). events_of before ++ l) whole ∙ was
