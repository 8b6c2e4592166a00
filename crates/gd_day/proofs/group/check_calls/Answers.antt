use Rattle.std.proofs.Common.{◌≡◌, ℕ, ◌+◌, ◌-◌, ◌≤◌, ◌++◌, ◌∷◌, ◌∙◌, List, length, take, drop, ap, sym, subst, inr, arith, Result}
use Rattle.gd_system.specs.Pipeline.{Pipeline}
use Rattle.gd_text_part.specs.Rows.{◌>>=◌}
use Rattle.gd_text_part.specs.declared.fault.TextFault.{TextFault}
use Rattle.gd_day.specs.Calls.{Call}
use Rattle.gd_day.specs.Groups.{checked_group, checked_calls}
use Rattle.gd_day.specs.Marks.{AreBefore}
use Rattle.std.proofs.lemmas.List.{take_at}
use Rattle.std.proofs.lemmas.Result.{err_from_is_err_and}
use Rattle.gd_day.proofs.CallGroups.{call_at, calls_left, passes_over, comes_to, none_left, group_long}
use Rattle.gd_day.proofs.group.check_calls.Goals as goal

-- what the calls are, once their first was checked
checked_next : (p : Pipeline) (c : Call) (calls : List Call) (first : Result (Unit {0}) TextFault) → first ≡ checked_group p c.first c.group
    → checked_calls p (c ∷ calls) ≡ (first >>= λ made. checked_calls p calls)
checked_next p c calls first e = ap (λ (o : Result (Unit {0}) TextFault). o >>= λ made. checked_calls p calls) (sym e)

-- marks that stand before a row stand before those after it
later : (n m : ℕ) (last : List ℕ) → n ≤ m → AreBefore n last → AreBefore m last
later n m last h before k = omega (arith, h, before k)

pub returns-in_err-check_group : goal.returns-in_err-check_group
returns-in_err-check_group c =
    let p = err_from_is_err_and c.from_residual-in_err-check_group.result c.from_residual-in_err-check_group.ensures.1 in
    let kept = c.rows.invariant in
    let system = c.args.system.now in
    rw (p.1, p.2) (inr (sym kept.left
    ∙ ap (λ (calls : List Call). checked_calls system calls) (comes_to c.args.rows.now c.rows.start c.rows.at c.index-rows-at.result kept.begun c.rows-test.true c.index-rows-at.is c.in-Some.field-0 (sym c.event_of.ensures ∙ c.in-Some.is))
    ∙ checked_next system (call_at c.args.rows.now c.rows.start c.rows.at c.in-Some.field-0) (calls_left c.args.rows.now (c.rows.at + 1) (c.rows.at + 1)) _ c.in_err-check_group.ensures.checked))

pub rows-preserved : goal.rows-preserved
rows-preserved c =
    let kept = c.rows.invariant in
    let system = c.args.system.now in
    let within : c.rows.at ≤ length c.args.rows.now = omega (arith, c.rows-test.true) in
    let marks = c.check_group.new.last in
    let long : length marks ≡ length c.rows.last.items = c.check_group.auto.last ∙ ap length c.deref_mut.ensures.value in
    let whole : take c.rows.last.len (marks ++ drop (length marks) c.rows.last.items) ≡ marks = take_at marks (drop (length marks) c.rows.last.items) c.rows.last.len (long ∙ sym c.rows.last.ok.0) in
    record {
      left = sym (ap (λ (calls : List Call). checked_calls system calls) (comes_to c.args.rows.now c.rows.start c.rows.at c.index-rows-at.result kept.begun c.rows-test.true c.index-rows-at.is c.in-Some.field-0 (sym c.event_of.ensures ∙ c.in-Some.is))
          ∙ checked_next system (call_at c.args.rows.now c.rows.start c.rows.at c.in-Some.field-0) (calls_left c.args.rows.now (c.rows.at + 1) (c.rows.at + 1)) _ c.in_ok-check_group.ensures.checked) ∙ kept.left;
      begun = omega arith;
      before = subst (AreBefore (c.rows.at + 1 + 1)) (sym whole)
          (later (c.rows.start + 1 + length (take (c.rows.at - c.rows.start) (drop c.rows.start c.args.rows.now))) (c.rows.at + 1 + 1) marks
          (omega (arith, group_long c.args.rows.now c.rows.start c.rows.at within, kept.begun)) c.in_ok-check_group.ensures.before);
      sized = ap length whole ∙ long ∙ kept.sized;
    }

pub returns : goal.returns
returns c = sym c.rows.invariant.left ∙ ap (λ (calls : List Call). checked_calls c.args.system.now calls) (none_left c.args.rows.now c.rows.start c.rows.at c.rows-test.false)

pub rows-preserved-in_default : goal.rows-preserved-in_default
rows-preserved-in_default c =
    let kept = c.rows.invariant in
    record {
      left = sym (ap (λ (calls : List Call). checked_calls c.args.system.now calls) (passes_over c.args.rows.now c.rows.start c.rows.at c.index-rows-at.result kept.begun c.rows-test.true c.index-rows-at.is (sym c.event_of.ensures ∙ c.in_default.is))) ∙ kept.left;
      begun = omega (arith, kept.begun);
      before = kept.before;
      sized = kept.sized;
    }
