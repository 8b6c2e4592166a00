-- How a record became a row.
use Rattle.std.proofs.Common.{◌≡◌, ℕ, ◌+◌, ◌≤◌, Bool, true, false, List, Result, Ok, Err, refl, ap, sym, subst, ◌∙◌}
use Rattle.std.specs.Prelude.{Option, Some, None, if◌then◌else◌, ◌&&◌, ◌||◌}
use Rattle.std.proofs.lemmas.Bool.{leb-true}
use Rattle.gd_text_part.specs.Findings.{at_row}
use Rattle.gd_text_part.specs.Kinds.{stage_of, takes, is_sched}
use Rattle.gd_text_part.specs.Offices.{counted}
use Rattle.gd_text_part.specs.Places.{row_of, kind_at, stands, stands_behind, body, after, may_stand, goes_on, left_over, misplaced, waiting_behind, stage_behind, is_head}
use Rattle.gd_text_part.specs.declared.blocks.Blocks.{Blocks}
use Rattle.gd_text_part.specs.declared.fault.Cause.{Cause}
use Rattle.gd_text_part.specs.declared.fault.RowFault.{RowFault}
use Rattle.gd_text_part.specs.declared.kind.Form.TheVariants as form
use Rattle.gd_text_part.specs.declared.kind.RowKind.{RowKind}
use Rattle.gd_text_part.specs.declared.order.Place.{Place}
use Rattle.gd_text_part.specs.declared.row.Row.{Row}
use Rattle.gd_live.proofs.AmongCalls.{bound, inside}

-- the kind of a row, which is taken and stands no earlier than it may, and where rows stand behind it
pub record Stood (place : Place) (n : ℕ) (fields : List (List ℕ)) (r : Row) (next : Place) : Type 0 where
  pub kind : RowKind
  pub taken : takes form.Day kind ≡ true
  pub late : place.stage ≤ stage_of kind
  pub row : body form.Day kind place fields ≡ Ok r
  pub stage : next.stage ≡ stage_behind kind
  pub scheds : next.scheds ≡ (if is_sched kind then place.scheds + 1 else 0)
  pub waiting : next.waiting ≡ waiting_behind place.waiting n kind
  pub blocks : counted place.blocks r ≡ Ok next.blocks

placed : {A : Type 0} (n : ℕ) (r : Result A Cause) (x : A) → at_row n r ≡ Ok x → r ≡ Ok x
placed n (Ok y) x h = cc
placed n (Err c) x h = absurd cc

taken_if : (b : Bool) (r : Result (Unit {0}) RowFault) (f : RowFault) → (if b then r else Err f) ≡ Ok tt → (b ≡ true) × (r ≡ Ok tt)
taken_if true r f h = (refl, h)
taken_if false r f h = absurd cc

behind : (left : Option ℕ) (place : Place) (n : ℕ) (k : RowKind) → stands_behind left form.Day place n k ≡ Ok tt → may_stand form.Day place k ≡ true
behind (Some began) place n k h = absurd cc
behind None place n k h = (taken_if (may_stand form.Day place k) (Ok tt) (misplaced n) h).0

first : (a b : Bool) → (a && b) ≡ true → a ≡ true
first true b h = refl
first false b h = absurd cc

not_earlier : (place : Place) (k : RowKind) → may_stand form.Day place k ≡ true → place.stage ≤ stage_of k
not_earlier place k may = leb-true place.stage (stage_of k) (first _ _ (first (goes_on place k) true may))

-- where rows stand behind a row of this kind
abbrev behind_kind : Place → ℕ → RowKind → Blocks → Place
behind_kind place n k blocks = record {
  stage = stage_behind k;
  headed = is_head k || (place.headed && true);
  scheds = if is_sched k then place.scheds + 1 else 0;
  waiting = waiting_behind place.waiting n k;
  blocks = blocks;
}

behind_so : (place : Place) (n : ℕ) (fields : List (List ℕ)) (k : RowKind) (r : Row) (next : Place) → takes form.Day k ≡ true → place.stage ≤ stage_of k
    → body form.Day k place fields ≡ Ok r → after form.Day place n k r ≡ Ok next → Stood place n fields r next
behind_so place n fields k r next taken late row h =
    let blocks = bound (counted place.blocks r) _ next h in
    let same : next ≡ behind_kind place n k blocks.0 = sym (inside Cause (behind_kind place n k blocks.0) next blocks.2) in
    record {
      kind = k;
      taken = taken;
      late = late;
      row = row;
      stage = ap (λ (p : Place). p.stage) same;
      scheds = ap (λ (p : Place). p.scheds) same;
      waiting = ap (λ (p : Place). p.waiting) same;
      blocks = blocks.1 ∙ ap (λ (p : Place). Ok p.blocks) (sym same);
    }

pub stood : (place : Place) (n : ℕ) (fields : List (List ℕ)) (r : Row) (next : Place) → row_of form.Day place n fields ≡ Ok (r, next) → Stood place n fields r next
stood place n fields r next h =
    let kind = bound (at_row n (kind_at form.Day fields)) _ (r, next) h in
    let standing = bound (stands form.Day place n kind.0) _ (r, next) kind.2 in
    let row = bound (at_row n (body form.Day kind.0 place fields)) _ (r, next) standing.2 in
    let left = bound (at_row n (after form.Day place n kind.0 row.0)) _ (r, next) row.2 in
    let stands = taken_if (takes form.Day kind.0) (stands_behind (left_over place.waiting kind.0) form.Day place n kind.0) (misplaced n) standing.1 in
    let late = not_earlier place kind.0 (behind (left_over place.waiting kind.0) place n kind.0 stands.1) in
    subst (λ (it : Row × Place). Stood place n fields it.0 it.1) (inside RowFault (row.0, left.0) (r, next) left.2)
    (behind_so place n fields kind.0 row.0 left.0 stands.0 late (placed n _ row.0 row.1) (placed n _ left.0 left.1))
