-- The rows of an opening. None of them is of a call, and behind them rows stand as behind any opening, but that an earlier
-- stage may come.
use Rattle.std.proofs.Common.{◌≡◌, ◌⊎◌, ℕ, ◌+◌, ◌≤◌, Bool, true, false, List, [], ◌∷◌, ◌++◌, Result, Ok, Err, refl, ap, sym, subst, ◌∙◌, arith, inl, inr}
use Rattle.std.specs.Prelude.{Option, Some, None, IfOk, nat_le, if◌then◌else◌, ◌==◌, ◌&&◌}
use Rattle.std.specs.List.{AllByRecursion}
use Rattle.std.proofs.lemmas.Bool.{leb-true, leb-false, le-leb}
use Rattle.gd_text_part.specs.Events.{event_at, event_row}
use Rattle.gd_text_part.specs.Kinds.{stage_of, takes, is_sched}
use Rattle.gd_text_part.specs.Lines.{behind_opening}
use Rattle.gd_text_part.specs.Offices.{no_blocks, party_of, counted}
use Rattle.gd_text_part.specs.Places.{start, row_of, body, waiting_behind, certificate_from, cut_from, at_end, ended}
use Rattle.gd_text_part.specs.Rows.{◌>>=◌, name_at, point_kind_at, quantity_at, empty_from, is_firm_at, service_of, key_at, date_at, text_at, book_at}
use Rattle.gd_text_part.specs.Rows.{segment_row, point_row, pool_row, contract_row, carry_row, day_row}
use Rattle.gd_text_part.specs.Texts.{rows_from}
use Rattle.gd_text_part.specs.declared.blocks.Blocks.{Blocks}
use Rattle.gd_text_part.specs.declared.fault.Cause.{Cause}
use Rattle.gd_text_part.specs.declared.fault.RowFault.{RowFault}
use Rattle.gd_text_part.specs.declared.kind.Form.TheVariants as form
use Rattle.gd_text_part.specs.declared.kind.RowKind.{RowKind}
use Rattle.gd_text_part.specs.declared.kind.RowKind.TheVariants as kind
use Rattle.gd_text_part.specs.declared.order.Place.{Place}
use Rattle.gd_text_part.specs.declared.row.Row.{Row}
use Rattle.gd_text_part.specs.declared.row.Row.TheVariants as row
use Rattle.gd_text_part.specs.declared.waiting.Waiting.{Waiting}
use Rattle.gd_text_part.specs.declared.waiting.Waiting.TheVariants as waiting
use Rattle.gd_live.specs.Calls.{is_of_call}
use Rattle.gd_live.specs.Fronts.{front_from}
use Rattle.gd_live.proofs.AmongCalls.{bound, inside, ok}
use Rattle.gd_day.specs.Calls.{calls_after, event_of}
use Rattle.gd_live.proofs.Stood.{Stood, stood}

-- ---- what the kinds of an opening are

record IsOfOpening (r : Row) : Type 0 where
  pub other : is_of_call r ≡ false
  pub counts : (b : Blocks) → counted b r ≡ Ok b

each : {A : Type 0} (x : Result A Cause) (f : A → Result Row Cause) → ((a : A) → IfOk (f a) IsOfOpening) → IfOk (x >>= f) IsOfOpening
each (Ok a) f h = h a
each (Err e) f h = tt

segment_is : (fields : List (List ℕ)) → IfOk (segment_row fields) IsOfOpening
unfolding segment_row
segment_is fields =
    each (name_at fields 2) _ λ name. each (name_at fields 3) _ λ from. each (name_at fields 4) _ λ to. each (quantity_at fields 5) _ λ capacity.
    each (empty_from fields 6) _ λ rest. record { other = refl; counts = λ b. refl }

point_is : (fields : List (List ℕ)) → IfOk (point_row fields) IsOfOpening
unfolding point_row
point_is fields =
    each (name_at fields 2) _ λ name. each (point_kind_at fields 3) _ λ kind. each (name_at fields 4) _ λ place. each (name_at fields 5) _ λ operator.
    each (quantity_at fields 6) _ λ capacity. each (empty_from fields 7) _ λ rest. record { other = refl; counts = λ b. refl }

pool_is : (fields : List (List ℕ)) → IfOk (pool_row fields) IsOfOpening
unfolding pool_row
pool_is fields =
    each (name_at fields 2) _ λ name. each (name_at fields 3) _ λ place. each (name_at fields 4) _ λ operator. each (empty_from fields 5) _ λ rest.
    record { other = refl; counts = λ b. refl }

contract_is : (fields : List (List ℕ)) → IfOk (contract_row fields) IsOfOpening
unfolding contract_row
contract_is fields =
    each (name_at fields 2) _ λ name. each (name_at fields 3) _ λ shipper. each (is_firm_at fields 4) _ λ firm. each (quantity_at fields 5) _ λ quantity.
    each (service_of firm fields) _ λ service. record { other = refl; counts = λ b. refl }

carry_is : (fields : List (List ℕ)) → IfOk (carry_row fields) IsOfOpening
unfolding carry_row
carry_is fields =
    each (key_at fields 2) _ λ key. each (quantity_at fields 6) _ λ quantity. each (empty_from fields 7) _ λ rest. record { other = refl; counts = λ b. refl }

day_is : (fields : List (List ℕ)) → IfOk (day_row true fields) IsOfOpening
unfolding day_row
day_is fields =
    each (date_at fields 2) _ λ date. each (text_at fields 3) _ λ zone. each (book_at true fields 4) _ λ book. each (empty_from fields 5) _ λ rest.
    record { other = refl; counts = λ b. refl }

early_row : (place : Place) (k : RowKind) (fields : List (List ℕ)) → takes form.Day k ≡ true → nat_le (stage_of kind.Sched) (stage_of k) ≡ false → IfOk (body form.Day k place fields) IsOfOpening
early_row place kind.Segment fields taken early = segment_is fields
early_row place kind.Point fields taken early = point_is fields
early_row place kind.Pool fields taken early = pool_is fields
early_row place kind.Contract fields taken early = contract_is fields
early_row place kind.Carry fields taken early = carry_is fields
early_row place kind.Day fields taken early = day_is fields
early_row place k fields taken early = absurd cc

nothing_waits : (k : RowKind) (w : Waiting) (n : ℕ) → nat_le (stage_of kind.Sched) (stage_of k) ≡ false → waiting_behind w n k ≡ waiting.Nothing
nothing_waits kind.Sched w n early = absurd cc
nothing_waits kind.Price w n early = absurd cc
nothing_waits kind.Inside w n early = absurd cc
nothing_waits k w n early = refl

no_sched : (k : RowKind) → nat_le (stage_of kind.Sched) (stage_of k) ≡ false → is_sched k ≡ false
no_sched kind.Sched early = absurd cc
no_sched k early = refl

-- ---- what the later kinds are

abbrev is_busy : Waiting → Bool
is_busy waiting.Nothing = false
is_busy w = true

certificate_waits : (w : Waiting) (n : ℕ) → is_busy (certificate_from w n) ≡ true
certificate_waits (waiting.Certificate began) n = refl
certificate_waits w n = refl

cut_waits : (w : Waiting) (n : ℕ) → is_busy (cut_from w n) ≡ true
cut_waits (waiting.Cut began) n = refl
cut_waits w n = refl

no_event : (k : RowKind) (party : Option (List ℕ)) (fields : List (List ℕ)) (r : Row) → event_row k party fields ≡ Ok r → event_of r ≡ None → ⊥
no_event k party fields r h none =
    let event = bound (event_at k party fields) _ r h in
    let same : Some event.0 ≡ None = ap event_of (inside Cause (row.Event event.0) r event.2) ∙ none in
    cc

late_row : (place : Place) (k : RowKind) (fields : List (List ℕ)) (r : Row) → takes form.Day k ≡ true → nat_le (stage_of kind.Sched) (stage_of k) ≡ true
    → body form.Day k place fields ≡ Ok r → event_of r ≡ None → (w : Waiting) (n : ℕ) → is_busy (waiting_behind w n k) ≡ true
late_row place kind.Sched fields r taken late h none w n = certificate_waits w n
late_row place kind.Price fields r taken late h none w n = certificate_waits w n
late_row place kind.Inside fields r taken late h none w n = cut_waits w n
late_row place kind.Nominate fields r taken late h none w n = absurd (no_event kind.Nominate (party_of place.waiting) fields r h none)
late_row place kind.Respond fields r taken late h none w n = absurd (no_event kind.Respond (party_of place.waiting) fields r h none)
late_row place kind.Post fields r taken late h none w n = absurd (no_event kind.Post (party_of place.waiting) fields r h none)
late_row place kind.Freeze fields r taken late h none w n = absurd (no_event kind.Freeze (party_of place.waiting) fields r h none)
late_row place kind.Settle fields r taken late h none w n = absurd (no_event kind.Settle (party_of place.waiting) fields r h none)
late_row place kind.Publish fields r taken late h none w n = absurd (no_event kind.Publish (party_of place.waiting) fields r h none)
late_row place kind.Declare fields r taken late h none w n = absurd (no_event kind.Declare (party_of place.waiting) fields r h none)
late_row place kind.Waive fields r taken late h none w n = absurd (no_event kind.Waive (party_of place.waiting) fields r h none)
late_row place kind.Skip fields r taken late h none w n = absurd (no_event kind.Skip (party_of place.waiting) fields r h none)
late_row place k fields r taken late h none w n = absurd cc

-- ---- where rows stand

-- behind rows of an opening alone
pub record IsQuiet (place : Place) : Type 0 where
  pub early : place.stage ≤ stage_of kind.Sched
  pub scheds : place.scheds ≡ 0
  pub waits : place.waiting ≡ waiting.Nothing
  pub blocks : place.blocks ≡ no_blocks

-- behind rows that wait for a call
record IsBusy (place : Place) : Type 0 where
  pub late : stage_of kind.Sched ≤ place.stage
  pub waits : is_busy place.waiting ≡ true

pub start_quiet : IsQuiet start
start_quiet = record { early = omega arith; scheds = refl; waits = refl; blocks = refl }

stage_low : (b : Bool) (s : ℕ) → s ≤ stage_of kind.Sched → (if b then stage_of kind.Sched else s) ≤ stage_of kind.Sched
stage_low true s low = omega arith
stage_low false s low = low

stage_high : (b : Bool) (s : ℕ) → stage_of kind.Sched ≤ s → stage_of kind.Sched ≤ (if b then stage_of kind.Sched else s)
stage_high true s high = omega arith
stage_high false s high = high

module _ (place : Place) (n : ℕ) (fields : List (List ℕ)) (r : Row) (next : Place) (it : Stood place n fields r next) where
  -- a row of a later kind that is no call waits for one
  late_busy : nat_le (stage_of kind.Sched) (stage_of it.kind) ≡ true → event_of r ≡ None → IsBusy next
  late_busy late none = record {
    late = rw it.stage (stage_high (stage_of it.kind == 9) (stage_of it.kind) (leb-true _ _ late));
    waits = rw it.waiting (late_row place it.kind fields r it.taken late it.row none place.waiting n);
  }

  opening_is : nat_le (stage_of kind.Sched) (stage_of it.kind) ≡ false → IsOfOpening r
  opening_is early = subst (λ (x : Result Row Cause). IfOk x IsOfOpening) it.row (early_row place it.kind fields it.taken early)

  early_quiet : nat_le (stage_of kind.Sched) (stage_of it.kind) ≡ false → IsQuiet place → IsQuiet next
  early_quiet early quiet =
      let count = inside Cause place.blocks next.blocks (sym ((opening_is early).counts place.blocks) ∙ it.blocks) in
      record {
        early = rw it.stage (stage_low (stage_of it.kind == 9) (stage_of it.kind) (omega (arith, leb-false _ _ early)));
        scheds = it.scheds ∙ rw (no_sched it.kind early) refl;
        waits = it.waiting ∙ nothing_waits it.kind place.waiting n early;
        blocks = sym count ∙ quiet.blocks;
      }

  goes_either : IsQuiet place → event_of r ≡ None → (b : Bool) → nat_le (stage_of kind.Sched) (stage_of it.kind) ≡ b → ((is_of_call r ≡ false) × IsQuiet next) ⊎ IsBusy next
  goes_either quiet none true late = inr (late_busy late none)
  goes_either quiet none false early = inl ((opening_is early).other, early_quiet early quiet)

-- a row that is no call leads on, or waits for one
quiet_row : (place : Place) (n : ℕ) (fields : List (List ℕ)) (r : Row) (next : Place) → IsQuiet place → event_of r ≡ None → row_of form.Day place n fields ≡ Ok (r, next)
    → ((is_of_call r ≡ false) × IsQuiet next) ⊎ IsBusy next
quiet_row place n fields r next quiet none h = let it = stood place n fields r next h in goes_either place n fields r next it quiet none (nat_le (stage_of kind.Sched) (stage_of it.kind)) refl

busy_row : (place : Place) (n : ℕ) (fields : List (List ℕ)) (r : Row) (next : Place) → IsBusy place → event_of r ≡ None → row_of form.Day place n fields ≡ Ok (r, next) → IsBusy next
busy_row place n fields r next busy none h =
    let it = stood place n fields r next h in
    late_busy place n fields r next it (le-leb (stage_of kind.Sched) (stage_of it.kind) (omega (arith, busy.late, it.late))) none

-- ---- all rows

still : (w : Waiting) (headed : Bool) (n : ℕ) → is_busy w ≡ true → ended w headed n ≡ Ok tt → ⊥
still waiting.Nothing headed n busy h = cc
still w headed n busy h = cc

-- a row that waits for a call is left over without one
never_ends : (records : List (List (List ℕ))) (place : Place) (n : ℕ) (rows : List Row) → IsBusy place → AllByRecursion (λ r. event_of r ≡ None) rows → rows_from form.Day place n records ≡ Ok rows → ⊥
unfolding rows_from
never_ends [] place n rows busy none h = let end = bound (at_end place n) _ rows h in still place.waiting _ n busy.waits end.1
never_ends (fields ∷ records) place n rows busy none h =
    let taken = bound (row_of form.Day place (n + 1) fields) _ rows h in
    let rest = bound (rows_from form.Day taken.0.1 (n + 1) records) _ rows taken.2 in
    let all = subst (AllByRecursion (λ r. event_of r ≡ None)) (sym (inside RowFault (taken.0.0 ∷ rest.0) rows rest.2)) none in
    never_ends records taken.0.1 (n + 1) rest.0 (busy_row place (n + 1) fields taken.0.0 taken.0.1 busy all.0 taken.1) all.1 rest.1

-- where rows stand behind an opening whose last row is of this stage
abbrev pub opened_at : ℕ → Place
opened_at stage = record behind_opening { stage = stage }

-- what rows of an opening are, and where they leave off
pub record LeavesOff (place : Place) (n : ℕ) (records : List (List (List ℕ))) (rows : List Row) : Type 0 where
  pub stage : ℕ
  pub early : stage ≤ stage_of kind.Sched
  pub front : front_from form.Day place n records ≡ Ok (rows, opened_at stage)
  pub other : AllByRecursion (λ r. is_of_call r ≡ false) rows

headed_end : (headed : Bool) (n : ℕ) → ended waiting.Nothing (headed && true) n ≡ Ok tt → headed ≡ true
headed_end true n h = refl
headed_end false n h = absurd cc

ends_at : (place : Place) (n : ℕ) → IsQuiet place → at_end place n ≡ Ok tt → place ≡ opened_at place.stage
ends_at place n quiet h =
    let headed = headed_end place.headed n (rw (quiet.waits, quiet.blocks) at h) in
    rw (headed, quiet.scheds, quiet.waits, quiet.blocks) refl

one_more : (place : Place) (n : ℕ) (fields : List (List ℕ)) (records : List (List (List ℕ))) (r : Row) (next : Place) (rows : List Row) (last : Place) → row_of form.Day place (n + 1) fields ≡ Ok (r, next)
    → front_from form.Day next (n + 1) records ≡ Ok (rows, last) → front_from form.Day place n (fields ∷ records) ≡ Ok (r ∷ rows, last)
one_more place n fields records r next rows last taken rest = rw (taken, rest) refl

pub opening_rows : (records : List (List (List ℕ))) (place : Place) (n : ℕ) (rows : List Row) → IsQuiet place → AllByRecursion (λ r. event_of r ≡ None) rows → rows_from form.Day place n records ≡ Ok rows → LeavesOff place n records rows
unfolding rows_from
opening_rows [] place n rows quiet none h =
    let end = bound (at_end place n) _ rows h in
    subst (LeavesOff place n []) (inside RowFault [] rows end.2)
    (record { stage = place.stage; early = quiet.early; front = ap (λ (p : Place). ok RowFault {A = List Row × Place} ([], p)) (ends_at place n quiet end.1); other = tt })
opening_rows (fields ∷ records) place n rows quiet none h =
    let taken = bound (row_of form.Day place (n + 1) fields) _ rows h in
    let rest = bound (rows_from form.Day taken.0.1 (n + 1) records) _ rows taken.2 in
    let same = inside RowFault (taken.0.0 ∷ rest.0) rows rest.2 in
    let all = subst (AllByRecursion (λ r. event_of r ≡ None)) (sym same) none in
    subst (LeavesOff place n (fields ∷ records)) same
    (elim (quiet_row place (n + 1) fields taken.0.0 taken.0.1 quiet all.0 taken.1) [
      | inl (other, next) ↦
          let later = opening_rows records taken.0.1 (n + 1) rest.0 next all.1 rest.1 in
          record { stage = later.stage; early = later.early; front = one_more place n fields records taken.0.0 taken.0.1 rest.0 (opened_at later.stage) taken.1 later.front; other = (other, later.other) }
      | inr busy ↦ absurd (never_ends records taken.0.1 (n + 1) rest.0 busy all.1 rest.1)
    ])

-- a text with no call has no event
pub no_events : (n : ℕ) (g rows : List Row) → calls_after n g rows ≡ [] → AllByRecursion (λ r. event_of r ≡ None) rows
no_events n g [] h = tt
no_events n g (row.Event event ∷ rows) h = absurd cc
no_events n g (r ∷ rows) h = (refl, no_events n (g ++ r ∷ []) rows h)
