-- The group of a call, row by row.
use Rattle.std.proofs.Common.{◌≡◌, ℕ, ◌+◌, ◌-◌, ◌<◌, ◌≤◌, List, [], ◌∷◌, ◌++◌, length, take, drop, get_or, Result, Ok, Err, refl, ◌∙◌, ap, sym, arith}
use Rattle.std.proofs.lemmas.List.{take_more, drop_all, get_or-drop, length-drop, length-take-le}
use Rattle.std.specs.Result.{IsOk}
use Rattle.std.specs.Prelude.{Some, None}
use Rattle.gd_system.specs.Pipeline.{Pipeline}
use Rattle.gd_text_part.specs.Rows.{◌>>=◌}
use Rattle.gd_text_part.specs.declared.fault.TextFault.{TextFault}
use Rattle.gd_text_part.specs.declared.row.EventRow.{EventRow}
use Rattle.gd_text_part.specs.declared.row.Row.{Row}
use Rattle.gd_text_part.specs.declared.row.Row.TheVariants as row
use Rattle.gd_text.specs.Members.{members_from}
use Rattle.gd_text.specs.Prices.{prices_from}
use Rattle.gd_day.specs.Calls.{Call, event_of, calls_after}
use Rattle.gd_day.specs.Groups.{checked, checked_group, checked_calls, Passes, AllPass}
use Rattle.gd_text.proofs.Building.{left}
use Rattle.gd_day.proofs.RowNumbers.{prices_whatever, members_whatever}

-- a row that is no call goes into the group
pub no_call : (first : ℕ) (group : List Row) (r : Row) (rows : List Row) → event_of r ≡ None → calls_after first group (r ∷ rows) ≡ calls_after first (group ++ r ∷ []) rows
no_call first group (row.Event event) rows h = cc
no_call first group r rows h = refl

-- a call ends it
pub a_call : (first : ℕ) (group : List Row) (r : Row) (rows : List Row) (event : EventRow) → event_of r ≡ Some event
    → calls_after first group (r ∷ rows) ≡ record { group = group; first = first; event = event } ∷ calls_after (first + length group + 1) [] rows
a_call first group (row.Event e) rows event h =
    let same : e ≡ event = cc in
    ap (λ (x : EventRow). call group first x ∷ calls_after (first + length group + 1) [] rows) same
  where
    call : List Row → ℕ → EventRow → Call
    call g n x = record { group = g; first = n; event = x }
a_call first group r rows event h = cc

group_grows : (rows : List Row) (start at : ℕ) (r : Row) → start ≤ at → at < length rows → r ≡ get_or rows at r → take (at + 1 - start) (drop start rows) ≡ take (at - start) (drop start rows) ++ r ∷ []
group_grows rows start at r b h e =
    let k : at + 1 - start ≡ at - start + 1 = omega (arith, b) in
    let s : start + (at - start) ≡ at = omega (arith, b) in
    let w : at - start < length (drop start rows) = omega (arith, length-drop start rows, h, b) in
    ap (λ n. take n (drop start rows)) k ∙ take_more (drop start rows) (at - start) r w
    ∙ ap (λ (x : Row). take (at - start) (drop start rows) ++ x ∷ []) (get_or-drop start rows (at - start) r ∙ ap (λ n. get_or rows n r) s ∙ sym e)

pub group_long : (rows : List Row) (start at : ℕ) → at ≤ length rows → length (take (at - start) (drop start rows)) ≡ at - start
group_long rows start at h = let w : at - start ≤ length (drop start rows) = omega (arith, length-drop start rows, h) in length-take-le (at - start) (drop start rows) w

-- The calls that are left at row `at`, where the group of the next one begins at `start`, both counted from 0.
abbrev pub calls_left : List Row → ℕ → ℕ → List Call
calls_left rows start at = calls_after (start + 1) (take (at - start) (drop start rows)) (drop at rows)

abbrev pub call_at : List Row → ℕ → ℕ → EventRow → Call
call_at rows start at event = record { group = take (at - start) (drop start rows); first = start + 1; event = event }

module _ (rows : List Row) (start at : ℕ) (r : Row) (b : start ≤ at) (h : at < length rows) (e : r ≡ get_or rows at r) where
  -- the same by the rows' places
  pub passes_over : event_of r ≡ None → calls_left rows start at ≡ calls_left rows start (at + 1)
  passes_over other =
      ap (λ (l : List Row). calls_after (start + 1) (take (at - start) (drop start rows)) l) (left rows at r h e)
      ∙ no_call (start + 1) (take (at - start) (drop start rows)) r (drop (at + 1) rows) other
      ∙ ap (λ (g : List Row). calls_after (start + 1) g (drop (at + 1) rows)) (sym (group_grows rows start at r b h e))

  -- and the next group begins behind it
  pub comes_to : (event : EventRow) → event_of r ≡ Some event → calls_left rows start at ≡ call_at rows start at event ∷ calls_left rows (at + 1) (at + 1)
  comes_to event is =
      let group : List Row = take (at - start) (drop start rows) in
      let none : 0 ≡ at + 1 - (at + 1) = omega arith in
      let long : length group ≡ at - start = group_long rows start at (omega (arith, h)) in
      let next : start + 1 + length group + 1 ≡ at + 1 + 1 = omega (arith, long, b) in
      ap (λ (l : List Row). calls_after (start + 1) group l) (left rows at r h e)
      ∙ a_call (start + 1) group r (drop (at + 1) rows) event is
      ∙ ap (λ n. call_at rows start at event ∷ calls_after n [] (drop (at + 1) rows)) next
      ∙ ap (λ n. call_at rows start at event ∷ calls_after (at + 1 + 1) (take n (drop (at + 1) rows)) (drop (at + 1) rows)) none

-- behind the last row no call is left
pub none_left : (rows : List Row) (start at : ℕ) → length rows ≤ at → calls_left rows start at ≡ []
none_left rows start at h = ap (λ (l : List Row). calls_after (start + 1) (take (at - start) (drop start rows)) l) (drop_all at rows h)

good : {X : Type 0} (o : Result X TextFault) → checked o ≡ Ok tt → IsOk o
good (Ok x) h = refl
good (Err f) h = cc

both : (a b : Result (Unit {0}) TextFault) → (a >>= λ u. b) ≡ Ok tt → (a ≡ Ok tt) × (b ≡ Ok tt)
both (Ok u) b h = (refl, h)
both (Err f) b h = cc

-- what was checked can be made, whatever the number of the first row
pub passes : (p : Pipeline) (n : ℕ) (group : List Row) → checked_group p n group ≡ Ok tt → Passes p group
passes p n group h =
    let parts = both (checked (prices_from n group p)) (checked (members_from n group p)) h in
    record {
      prices = sym (prices_whatever p n group) ∙ good (prices_from n group p) parts.0;
      members = sym (members_whatever p n group) ∙ good (members_from n group p) parts.1;
    }

pub all_pass : (p : Pipeline) (calls : List Call) → checked_calls p calls ≡ Ok tt → AllPass p calls
all_pass p [] h = tt
all_pass p (c ∷ calls) h =
    let parts = both (checked_group p c.first c.group) (checked_calls p calls) h in
    (passes p c.first c.group parts.0, all_pass p calls parts.1)
