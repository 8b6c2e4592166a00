-- What a row behind the opening of a gas day leaves, and that its number doesn't matter.
use Rattle.std.proofs.Common.{◌≡◌, ◌⊎◌, ℕ, ◌+◌, Bool, true, false, List, Result, Ok, Err, refl, ap, sym, subst, ◌∙◌, arith, inl, inr}
use Rattle.std.specs.Prelude.{Option, Some, None, nat_le, if◌then◌else◌, ◌&&◌, ◌||◌}
use Rattle.std.proofs.lemmas.Bool.{leb-true, le-leb}
use Rattle.gd_text_part.specs.Events.{event_at, event_row}
use Rattle.gd_text_part.specs.Findings.{at_row}
use Rattle.gd_text_part.specs.Kinds.{stage_of, takes, is_sched}
use Rattle.gd_text_part.specs.Lines.{behind_opening}
use Rattle.gd_text_part.specs.Offices.{is_idle, party_of, counted}
use Rattle.gd_text_part.specs.Places.{row_of, kind_at, stands, stands_behind, body, after, may_stand, left_over, waiting_behind, stage_behind, is_head, certificate_from, cut_from, misplaced}
use Rattle.gd_text_part.specs.Rows.{◌>>=◌, class_at, empty_from, inside_row, member_at, name_at, number_at, price_row, quantity_at, sched_row, signed_at, signed_or_zero_at}
use Rattle.gd_text_part.specs.declared.blocks.Blocks.{Blocks}
use Rattle.gd_text_part.specs.declared.fault.Cause.{Cause}
use Rattle.gd_text_part.specs.declared.fault.RowFault.{RowFault}
use Rattle.gd_text_part.specs.declared.kind.Form.TheVariants as form
use Rattle.gd_text_part.specs.declared.kind.RowKind.{RowKind}
use Rattle.gd_text_part.specs.declared.kind.RowKind.TheVariants as kind
use Rattle.gd_text_part.specs.declared.order.Place.{Place}
use Rattle.gd_text_part.specs.declared.row.EventRow.{EventRow}
use Rattle.gd_text_part.specs.declared.row.Row.{Row}
use Rattle.gd_text_part.specs.declared.row.Row.TheVariants as row
use Rattle.gd_text_part.specs.declared.waiting.Waiting.{Waiting}
use Rattle.gd_text_part.specs.declared.waiting.Waiting.TheVariants as waiting
use Rattle.gd_live.specs.Calls.{IsAmongCalls, is_call, is_of_call}

-- what a step that was taken gave
pub bound : {A B E : Type 0} (r : Result A E) (f : A → Result B E) (y : B) → (r >>= f) ≡ Ok y → (x : A) × (r ≡ Ok x) × (f x ≡ Ok y)
bound (Ok x) f y h = (x, refl, h)
bound (Err e) f y h = absurd cc

placed : {A : Type 0} (n : ℕ) (r : Result A Cause) (x : A) → at_row n r ≡ Ok x → r ≡ Ok x
placed n (Ok y) x h = cc
placed n (Err c) x h = absurd cc

-- how record n became a row
pub record Took (place : Place) (n : ℕ) (fields : List (List ℕ)) (r : Row) (next : Place) : Type 0 where
  pub kind : RowKind
  pub is : kind_at form.Day fields ≡ Ok kind
  pub stood : stands form.Day place n kind ≡ Ok tt
  pub row : body form.Day kind place fields ≡ Ok r
  pub behind : after form.Day place n kind r ≡ Ok next

-- what is there
abbrev pub ok : (E : Type 0) → {A : Type 0} → A → Result A E
ok E x = Ok x

pub inside : {A : Type 0} (E : Type 0) (x y : A) → ok E x ≡ Ok y → x ≡ y
inside E x y h = cc

parts : (a b : Row) (p q : Place) → ok RowFault {A = Row × Place} (a, p) ≡ Ok (b, q) → (a ≡ b) × (p ≡ q)
parts a b p q h =
    let same = inside {A = Row × Place} RowFault (a, p) (b, q) h in
    (ap (λ (it : Row × Place). it.0) same, ap (λ (it : Row × Place). it.1) same)

took : (place : Place) (n : ℕ) (fields : List (List ℕ)) (r : Row) (next : Place) → row_of form.Day place n fields ≡ Ok (r, next) → Took place n fields r next
took place n fields r next h =
    let a = bound (at_row n (kind_at form.Day fields)) _ (r, next) h in
    let b = bound (stands form.Day place n a.0) _ (r, next) a.2 in
    let c = bound (at_row n (body form.Day a.0 place fields)) _ (r, next) b.2 in
    let d = bound (at_row n (after form.Day place n a.0 c.0)) _ (r, next) c.2 in
    let same = parts c.0 r d.0 next d.2 in
    record {
      kind = a.0;
      is = placed n (kind_at form.Day fields) a.0 a.1;
      stood = b.1;
      row = subst (λ (x : Row). body form.Day a.0 place fields ≡ Ok x) same.0 (placed n (body form.Day a.0 place fields) c.0 c.1);
      behind = subst (λ (x : Row). after form.Day place n a.0 x ≡ Ok next) same.0 (placed n (after form.Day place n a.0 c.0) d.0 d.1 ∙ ap (λ (p : Place). Ok p) same.1);
    }

pub takes_it : (place : Place) (n : ℕ) (fields : List (List ℕ)) (r : Row) (next : Place) → Took place n fields r next → row_of form.Day place n fields ≡ Ok (r, next)
takes_it place n fields r next t = rw (t.is, t.stood, t.row, t.behind) refl

-- a row that stands may stand, and leaves nothing over
pub record Stood (place : Place) (k : RowKind) : Type 0 where
  pub taken : takes form.Day k ≡ true
  pub none : left_over place.waiting k ≡ None
  pub may : may_stand form.Day place k ≡ true

behind_none : (o : Option ℕ) (place : Place) (n : ℕ) (k : RowKind) → stands_behind o form.Day place n k ≡ Ok tt → (o ≡ None) × (may_stand form.Day place k ≡ true)
behind_none (Some began) place n k h = absurd cc
behind_none None place n k h = (refl, chosen (may_stand form.Day place k) h)
  where
    chosen : (b : Bool) → (if b then ok RowFault {A = Unit {0}} tt else Err (misplaced n)) ≡ Ok tt → b ≡ true
    chosen true h = refl
    chosen false h = absurd cc

stood : (place : Place) (n : ℕ) (k : RowKind) → stands form.Day place n k ≡ Ok tt → Stood place k
stood place n k h = go (takes form.Day k) refl h
  where
    go : (b : Bool) → takes form.Day k ≡ b → (if b then stands_behind (left_over place.waiting k) form.Day place n k else Err (misplaced n)) ≡ Ok tt → Stood place k
    go true e h = let it = behind_none (left_over place.waiting k) place n k h in record { taken = e; none = it.0; may = it.1 }
    go false e h = absurd cc

pub stands_so : (place : Place) (n : ℕ) (k : RowKind) → Stood place k → stands form.Day place n k ≡ Ok tt
stands_so place n k s = rw (s.taken, s.none, s.may) refl

-- it is of a kind that stands no earlier than `sched` rows
late_kind : (place : Place) (k : RowKind) → IsAmongCalls place → may_stand form.Day place k ≡ true → nat_le (stage_of kind.Sched) (stage_of k) ≡ true
late_kind place k among may = le-leb (stage_of kind.Sched) (stage_of k) (omega (arith, among.late, leb-true place.stage (stage_of k) (first (nat_le place.stage (stage_of k)) _ (left _ may))))
  where
    left : (a : Bool) → (a && true) ≡ true → a ≡ true
    left true h = refl
    left false h = absurd cc

    first : (a b : Bool) → (a && b) ≡ true → a ≡ true
    first true b h = refl
    first false b h = absurd cc

-- a kind of call
pub record IsCall (k : RowKind) : Type 0 where
  pub row : (place : Place) (fields : List (List ℕ)) → body form.Day k place fields ≡ event_row k (party_of place.waiting) fields
  pub waits : (w : Waiting) (n : ℕ) → waiting_behind w n k ≡ waiting.Nothing
  pub sched : is_sched k ≡ false
  pub head : is_head k ≡ false
  pub stage : stage_behind k ≡ stage_of kind.Sched

abbrev pub IsCallOrWaits : RowKind → Type 0
IsCallOrWaits k = (k ≡ kind.Sched) ⊎ (k ≡ kind.Price) ⊎ (k ≡ kind.Inside) ⊎ IsCall k

call_or_waits : (k : RowKind) → takes form.Day k ≡ true → nat_le (stage_of kind.Sched) (stage_of k) ≡ true → IsCallOrWaits k
call_or_waits kind.Segment t s = absurd cc
call_or_waits kind.Point t s = absurd cc
call_or_waits kind.Pool t s = absurd cc
call_or_waits kind.Contract t s = absurd cc
call_or_waits kind.Question t s = absurd cc
call_or_waits kind.Day t s = absurd cc
call_or_waits kind.Capacity t s = absurd cc
call_or_waits kind.Carry t s = absurd cc
call_or_waits kind.Line t s = absurd cc
call_or_waits kind.Sched t s = inl refl
call_or_waits kind.Price t s = inr (inl refl)
call_or_waits kind.Inside t s = inr (inr (inl refl))
call_or_waits kind.Bumped t s = absurd cc
call_or_waits kind.Nominate t s = inr (inr (inr (record { row = λ p f. refl; waits = λ w n. refl; sched = refl; head = refl; stage = refl })))
call_or_waits kind.Respond t s = inr (inr (inr (record { row = λ p f. refl; waits = λ w n. refl; sched = refl; head = refl; stage = refl })))
call_or_waits kind.Post t s = inr (inr (inr (record { row = λ p f. refl; waits = λ w n. refl; sched = refl; head = refl; stage = refl })))
call_or_waits kind.Freeze t s = inr (inr (inr (record { row = λ p f. refl; waits = λ w n. refl; sched = refl; head = refl; stage = refl })))
call_or_waits kind.Settle t s = inr (inr (inr (record { row = λ p f. refl; waits = λ w n. refl; sched = refl; head = refl; stage = refl })))
call_or_waits kind.Publish t s = inr (inr (inr (record { row = λ p f. refl; waits = λ w n. refl; sched = refl; head = refl; stage = refl })))
call_or_waits kind.Declare t s = inr (inr (inr (record { row = λ p f. refl; waits = λ w n. refl; sched = refl; head = refl; stage = refl })))
call_or_waits kind.Waive t s = inr (inr (inr (record { row = λ p f. refl; waits = λ w n. refl; sched = refl; head = refl; stage = refl })))
call_or_waits kind.Skip t s = inr (inr (inr (record { row = λ p f. refl; waits = λ w n. refl; sched = refl; head = refl; stage = refl })))
call_or_waits kind.Session t s = absurd cc
call_or_waits kind.Desk t s = absurd cc

-- a row of such a kind is a call or waits for one, and begins no session
pub record Passed (call : Bool) (r : Row) : Type 0 where
  pub is : is_call r ≡ call
  pub of_call : is_of_call r ≡ true
  pub blocks : (b : Blocks) → counted b r ≡ Ok b

passed_as : (call : Bool) (x r : Row) → ok Cause x ≡ Ok r → Passed call x → Passed call r
passed_as call x r h it = subst (Passed call) (inside Cause x r h) it

sched_passed : (next : ℕ) (fields : List (List ℕ)) (r : Row) → sched_row next fields ≡ Ok r → Passed false r
unfolding sched_row
sched_passed next fields r h =
    let line = bound (number_at fields 2 next next) _ r h in
    let quantity = bound (quantity_at fields 3) _ r line.2 in
    let rest = bound (empty_from fields 4) _ r quantity.2 in
    passed_as false (row.Sched line.0 quantity.0) r rest.2 (record { is = refl; of_call = refl; blocks = λ b. refl })

price_passed : (fields : List (List ℕ)) (r : Row) → price_row fields ≡ Ok r → Passed false r
unfolding price_row
price_passed fields r h =
    let element = bound (name_at fields 2) _ r h in
    let class = bound (class_at fields 3) _ r element.2 in
    let word = bound (signed_at fields 4) _ r class.2 in
    let spread = bound (signed_or_zero_at fields 5) _ r word.2 in
    let rest = bound (empty_from fields 6) _ r spread.2 in
    passed_as false (row.Price element.0 class.0 word.0 spread.0) r rest.2 (record { is = refl; of_call = refl; blocks = λ b. refl })

inside_passed : (fields : List (List ℕ)) (r : Row) → inside_row fields ≡ Ok r → Passed false r
unfolding inside_row
inside_passed fields r h =
    let member = bound (member_at fields 2) _ r h in
    let name = bound (name_at fields 3) _ r member.2 in
    let rest = bound (empty_from fields 4) _ r name.2 in
    passed_as false (row.Inside member.0 name.0) r rest.2 (record { is = refl; of_call = refl; blocks = λ b. refl })

event_passed : (k : RowKind) (party : Option (List ℕ)) (fields : List (List ℕ)) (r : Row) → event_row k party fields ≡ Ok r → Passed true r
event_passed k party fields r h =
    let event = bound (event_at k party fields) _ r h in
    passed_as true (row.Event event.0) r event.2 (record { is = refl; of_call = refl; blocks = λ b. refl })

passed : (place : Place) (k : RowKind) (fields : List (List ℕ)) (r : Row) → IsCallOrWaits k → body form.Day k place fields ≡ Ok r → (call : Bool) × Passed call r
passed place k fields r (inl e) h = (false, sched_passed (place.scheds + 1) fields r (rw e at h))
passed place k fields r (inr (inl e)) h = (false, price_passed fields r (rw e at h))
passed place k fields r (inr (inr (inl e))) h = (false, inside_passed fields r (rw e at h))
passed place k fields r (inr (inr (inr call))) h = (true, event_passed k (party_of place.waiting) fields r (sym (call.row place fields) ∙ h))

-- where rows stand behind it
abbrev pub behind_kind : Place → ℕ → RowKind → Place
behind_kind place n k = record place {
  stage = stage_behind k;
  headed = is_head k || place.headed;
  scheds = if is_sched k then place.scheds + 1 else 0;
  waiting = waiting_behind place.waiting n k;
}

with_true : (b : Bool) → (b && true) ≡ b
with_true true = refl
with_true false = refl

pub behind_is : (place : Place) (n : ℕ) (k : RowKind) (call : Bool) (r : Row) → Passed call r → after form.Day place n k r ≡ Ok (behind_kind place n k)
behind_is place n k call r p = rw (p.blocks place.blocks, with_true place.headed) refl

next_is : (place : Place) (n : ℕ) (k : RowKind) (call : Bool) (r : Row) (next : Place) → Passed call r → after form.Day place n k r ≡ Ok next → next ≡ behind_kind place n k
next_is place n k call r next p h = inside Cause next (behind_kind place n k) (sym h ∙ behind_is place n k call r p)

-- behind a call rows stand behind the opening again
behind_call : (place : Place) (n : ℕ) (k : RowKind) → IsAmongCalls place → IsCall k → behind_kind place n k ≡ behind_opening
behind_call place n k among call = rw (call.stage, call.head, call.sched, call.waits place.waiting n, among.headed, among.blocks) refl

pub opening_among : IsAmongCalls behind_opening
opening_among = record { late = omega arith; headed = refl; blocks = refl; idle = refl }

certificate_idle : (w : Waiting) (n : ℕ) → is_idle (certificate_from w n) ≡ true
certificate_idle waiting.Nothing n = refl
certificate_idle (waiting.Certificate began) n = refl
certificate_idle (waiting.Cut began) n = refl
certificate_idle (waiting.Phase began sessions party) n = refl

cut_idle : (w : Waiting) (n : ℕ) → is_idle (cut_from w n) ≡ true
cut_idle waiting.Nothing n = refl
cut_idle (waiting.Certificate began) n = refl
cut_idle (waiting.Cut began) n = refl
cut_idle (waiting.Phase began sessions party) n = refl

behind_among : (place : Place) (n : ℕ) (k : RowKind) → IsAmongCalls place → IsCallOrWaits k → IsAmongCalls (behind_kind place n k)
behind_among place n k among (inl e) = rw e (record { late = omega arith; headed = among.headed; blocks = among.blocks; idle = certificate_idle place.waiting n })
behind_among place n k among (inr (inl e)) = rw e (record { late = omega arith; headed = among.headed; blocks = among.blocks; idle = certificate_idle place.waiting n })
behind_among place n k among (inr (inr (inl e))) = rw e (record { late = omega arith; headed = among.headed; blocks = among.blocks; idle = cut_idle place.waiting n })
behind_among place n k among (inr (inr (inr call))) = subst IsAmongCalls (sym (behind_call place n k among call)) opening_among

-- what is known of a row behind the opening
pub record Known (place : Place) (n : ℕ) (fields : List (List ℕ)) (r : Row) (next : Place) : Type 0 where
  pub took : Took place n fields r next
  pub stood : Stood place took.kind
  pub which : IsCallOrWaits took.kind
  pub passed : (call : Bool) × Passed call r
  pub leaves : next ≡ behind_kind place n took.kind

pub known : (place : Place) (n : ℕ) (fields : List (List ℕ)) (r : Row) (next : Place) → IsAmongCalls place → row_of form.Day place n fields ≡ Ok (r, next) → Known place n fields r next
known place n fields r next among h =
    let t = took place n fields r next h in
    let s = stood place n t.kind t.stood in
    let which = call_or_waits t.kind s.taken (late_kind place t.kind among s.may) in
    let it = passed place t.kind fields r which t.row in
    record { took = t; stood = s; which = which; passed = it; leaves = next_is place n t.kind it.0 r next it.1 t.behind }

pub rows_among : (place : Place) (n : ℕ) (fields : List (List ℕ)) (r : Row) (next : Place) → IsAmongCalls place → row_of form.Day place n fields ≡ Ok (r, next)
    → (is_of_call r ≡ true) × IsAmongCalls next
rows_among place n fields r next among h =
    let it = known place n fields r next among h in
    (it.passed.1.of_call, subst IsAmongCalls (sym it.leaves) (behind_among place n it.took.kind among it.which))

called : (place : Place) (n : ℕ) (k : RowKind) (fields : List (List ℕ)) (event : EventRow) → IsAmongCalls place → IsCallOrWaits k
    → body form.Day k place fields ≡ Ok (row.Event event) → behind_kind place n k ≡ behind_opening
called place n k fields event among (inl e) h = let it = sched_passed (place.scheds + 1) fields (row.Event event) (rw e at h) in let no = it.is in absurd cc
called place n k fields event among (inr (inl e)) h = let it = price_passed fields (row.Event event) (rw e at h) in let no = it.is in absurd cc
called place n k fields event among (inr (inr (inl e))) h = let it = inside_passed fields (row.Event event) (rw e at h) in let no = it.is in absurd cc
called place n k fields event among (inr (inr (inr call))) h = behind_call place n k among call

pub calls_behind : (place : Place) (n : ℕ) (fields : List (List ℕ)) (event : EventRow) (next : Place) → IsAmongCalls place
    → row_of form.Day place n fields ≡ Ok (row.Event event, next) → next ≡ behind_opening
calls_behind place n fields event next among h =
    let it = known place n fields (row.Event event) next among h in
    it.leaves ∙ called place n it.took.kind fields event among it.which it.took.row
