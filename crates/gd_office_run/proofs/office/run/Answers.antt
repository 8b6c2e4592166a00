use Rattle.std.proofs.Common.{◌≡◌, ◌∙◌, ◌++◌, List, [], length, refl, ap, ap₂, arith, rules}
use Rattle.std.specs.List.{list_all}
use Rattle.std.proofs.lemmas.List.{append-nil}
use Rattle.gd_office_run.specs.Shares.{share_at}
use Rattle.gd_office_run.proofs.Shares.{end_same}
use Rattle.gd_office_run.specs.RunShares.{share_of}
use Rattle.gd_office_run.specs.RunRows.{ends_rows, is_reconciled}
use Rattle.gd_replies.specs.declared.reply.Reply.{Reply}
use Rattle.gd_office_run.proofs.Runs.{early, on_err}
use Rattle.gd_office_run.proofs.office.run.Goals as goal

pub returns-in_err-holding-clause-err : goal.returns-in_err-holding-clause-err
returns-in_err-holding-clause-err g c = on_err c.from_residual.result _ (0, [], (refl, tt, (λ k d below. elim below [ ])), c.requires)

pub returns-in_err-ends-clause-err : goal.returns-in_err-ends-clause-err
returns-in_err-ends-clause-err g c =
    let run = c.in_ok-run_phases.ensures.ok in let phases = c.args.phases.items in
    on_err c.from_residual-in_err-ends.result _ (early g.J.Days.days (length c.args.office.now.slots.items) phases phases [] run.0 c.run_phases.new.rows.items (append-nil phases) run.1 run.2)

pub returns-in_err-last-clause-err : goal.returns-in_err-last-clause-err
returns-in_err-last-clause-err g c =
    let run = c.in_ok-run_phases.ensures.ok in let phases = c.args.phases.items in
    on_err c.from_residual-in_err-last.result _ (early g.J.Days.days (length c.args.office.now.slots.items) phases phases [] run.0 c.run_phases.new.rows.items (append-nil phases) run.1 run.2)

pub returns-in_err-append-clause-err : goal.returns-in_err-append-clause-err
returns-in_err-append-clause-err g c =
    let run = c.in_ok-run_phases.ensures.ok in let phases = c.args.phases.items in
    on_err c.from_residual-in_err-append.result _
    (early g.J.Days.days (length c.args.office.now.slots.items) phases phases [] run.0 c.append.new.self.items (append-nil phases) run.1 (c.in_err-append.ensures.items ∙ run.2))

pub returns-clause-ok : goal.returns-clause-ok
returns-clause-ok g c =
    let run = c.in_ok-run_phases.ensures.ok in let os = run.0 in let ends = c.in_ok-ends.ends.items in
    let slots = length c.args.office.now.slots.items in
    let long : length c.in_ok-ends.ends.items ≡ length c.args.office.now.slots.items = let l = c.in_ok-ends.ensures.len in search rules in (
      os,
      ends,
      run.1,
      (long, end_same g.J.Days.days (share_at c.run_phases.new.holding) (share_of os) 0 ends (λ k low high. run.3.1 k (omega (arith, high, long))) c.in_ok-ends.ensures.ends),
      c.in_ok-append.ensures.items ∙ ap₂ (λ (a b : List Reply). a ++ b) run.2 (c.in_ok-last.ensures ∙ ap (ends_rows 1) c.as_slice.ensures.value),
      c.all_reconciled.ensures ∙ ap (list_all is_reconciled) c.as_slice-2.ensures.value,
    )
