-- Calls that are made one after the other.
use Rattle.std.specs.Prelude.{OnErr}
use Rattle.std.proofs.Common.{Result, Ok, Err, ◌≡◌, ℕ, zero, suc, ◌+◌, List, [], ◌∷◌, ◌++◌, length, reverse, take, drop, Some, None, refl, sym, ap, ◌∙◌, subst}
use Rattle.std.proofs.lemmas.List.{append_assoc, append-nil, reverse-append}
use Rattle.gd_system.specs.Pipeline.{Pipeline}
use Rattle.gd_text_part.specs.declared.row.EventRow.{EventRow}
use Rattle.gd_text_part.specs.declared.row.Row.{Row}
use Rattle.gd_day.specs.Calls.{Call, event_of, calls_after, calls_of}
use Rattle.gd_day.specs.Groups.{Passes, AllPass}
use Rattle.gd_day.proofs.CallGroups.{no_call, a_call}
use Rattle.gd_machine.specs.Day.{Day}
use Rattle.gd_machine.specs.Headline.{Holds}
use Rattle.gd_machine.specs.History.{History}
use Rattle.gd_replies.specs.declared.reply.Reply.{Reply}
use Rattle.gd_course.specs.Course.{CallGives, RowGives, Runs, RunsInPart}

-- one call more
pub runs_more : (day : Day) (h : History) (calls : List Call) (c : Call) (rows front : List Reply) (between after : History)
    → Runs day h calls rows between → CallGives day between c front after → Runs day h (calls ++ c ∷ []) (rows ++ front) after
runs_more day h [] c rows front between after r g = (
  after,
  front,
  [],
  subst (λ (b : History). CallGives day b c front after) r.1 g,
  (refl, refl),
  ap (λ (l : List Reply). l ++ front) r.0 ∙ sym (append-nil front),
)
runs_more day h (d ∷ calls) c rows front between after (next, first, rest, gave, runs, told) g = (
  next,
  first,
  rest ++ front,
  gave,
  runs_more day next calls c rest front between after runs g,
  ap (λ (l : List Reply). l ++ front) told ∙ append_assoc first rest front,
)

-- the first of what is left
pub taken_next : {A : Type 0} (n : ℕ) (xs : List A) (x : A) (ys : List A) → drop n xs ≡ x ∷ ys → (take (suc n) xs ≡ take n xs ++ x ∷ []) × (drop (suc n) xs ≡ ys)
taken_next zero [] x ys h = cc
taken_next zero (z ∷ xs) x ys h =
    let first : z ≡ x = cc in
    let rest : xs ≡ ys = cc in
    (ap (λ v. v ∷ []) first, rest)
taken_next (suc n) [] x ys h = cc
taken_next (suc n) (z ∷ xs) x ys h =
    let later = taken_next n xs x ys h in
    (ap (λ l. z ∷ l) later.0, later.1)

-- what holds of all holds of the first of what is left
pub passes_next : (p : Pipeline) (n : ℕ) (calls : List Call) (c : Call) (rest : List Call) → AllPass p calls → drop n calls ≡ c ∷ rest → Passes p c.group
passes_next p zero [] c rest all h = cc
passes_next p zero (d ∷ calls) c rest all h = let same : d ≡ c = cc in subst (λ (v : Call). Passes p v.group) same all.0
passes_next p (suc n) [] c rest all h = cc
passes_next p (suc n) (d ∷ calls) c rest all h = passes_next p n calls c rest all.1 h

-- Of the calls of these rows those were made that don't stand in what is left, and before that stands `group`, the rows of the next
-- one so far: what is told of them is `told`, and the history is `after`.
pub record IsAt (day : Day) (h : History) (rows group left : List Row) (told : List Reply) (after : History) : Type 0 where
  pub made : ℕ
  pub first : ℕ
  pub run : Runs day h (take made (calls_of rows)) told after
  pub next : drop made (calls_of rows) ≡ calls_after first group left

pub begin : (day : Day) (h : History) (rows group left : List Row) (told : List Reply) → told ≡ [] → group ≡ [] → left ≡ rows → IsAt day h rows group left told h
begin day h rows group left told none empty all = record {
  made = 0;
  first = 1;
  run = (none, refl);
  next = sym (ap (λ (g : List Row). calls_after 1 g left) empty ∙ ap (λ (l : List Row). calls_after 1 [] l) all);
}

-- Rows lie from the last to the first: the last of them is the next row.
pub turned : (rows left : List Row) (r : Row) → rows ≡ left ++ r ∷ [] → reverse rows ≡ r ∷ reverse left
turned rows left r is = ap reverse is ∙ reverse-append left (r ∷ [])

module _ (day : Day) (h : History) (rows group left : List Row) (told : List Reply) (between : History) (r : Row) (here : IsAt day h rows group (r ∷ left) told between) where
  -- the row is no call
  pub passed_over : event_of r ≡ None → IsAt day h rows (group ++ r ∷ []) left told between
  passed_over other = record {
    made = here.made;
    first = here.first;
    run = here.run;
    next = here.next ∙ no_call here.first group r left other;
  }

  abbrev the_call : EventRow → Call
  the_call event = record { group = group; first = here.first; event = event }

  next_call : (event : EventRow) → event_of r ≡ Some event → drop here.made (calls_of rows) ≡ the_call event ∷ calls_after (here.first + length group + 1) [] left
  next_call event is = here.next ∙ a_call here.first group r left event is

  -- the row is a call, whose group can be made
  pub can_be_made : (p : Pipeline) (event : EventRow) → event_of r ≡ Some event → AllPass p (calls_of rows) → Passes p group
  can_be_made p event is all = passes_next p here.made (calls_of rows) (the_call event) (calls_after (here.first + length group + 1) [] left) all (next_call event is)

  -- and it was made
  pub went_on : (event : EventRow) (front new : List Reply) (after : History) → event_of r ≡ Some event
      → RowGives day between group event front after → new ≡ told ++ front → IsAt day h rows [] left new after
  went_on event front new after is gave so =
      let c = the_call event in
      let later = taken_next here.made (calls_of rows) c (calls_after (here.first + length group + 1) [] left) (next_call event is) in
      record {
        made = suc here.made;
        first = here.first + length group + 1;
        run = subst (λ (l : List Call). Runs day h l new after) (sym later.0)
            (subst (λ (l : List Reply). Runs day h (take here.made (calls_of rows) ++ c ∷ []) l after) (sym so)
            (runs_more day h (take here.made (calls_of rows)) c told front between after here.run gave));
        next = later.1;
      }

all_taken : {A : Type 0} (n : ℕ) (xs : List A) → drop n xs ≡ [] → take n xs ≡ xs
all_taken zero [] h = refl
all_taken zero (x ∷ xs) h = cc
all_taken (suc n) [] h = refl
all_taken (suc n) (x ∷ xs) h = ap (λ l. x ∷ l) (all_taken n xs h)

-- no row is left
pub ran_all : (day : Day) (h : History) (rows group left : List Row) (told : List Reply) (after : History) → left ≡ [] → IsAt day h rows group left told after → Runs day h (calls_of rows) told after
ran_all day h rows group left told after none here =
    let over = here.next ∙ ap (λ (l : List Row). calls_after here.first group l) none in
    subst (λ (l : List Call). Runs day h l told after) (all_taken here.made (calls_of rows) over) here.run

-- what was made so far
pub ran_so_far : (day : Day) (h : History) (rows group left : List Row) (told : List Reply) (after : History) → IsAt day h rows group left told after → Holds day after → RunsInPart day h (calls_of rows) told
ran_so_far day h rows group left told after here holds = (here.made, after, here.run, holds)

-- what holds where memory ran out
pub in_part : {X E : Type 0} (r : Result X E) (P : Type 0) → P → OnErr r P
in_part (Ok x) P holds = tt
in_part (Err e) P holds = holds
