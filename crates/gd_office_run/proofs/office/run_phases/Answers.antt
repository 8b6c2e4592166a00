use Rattle.std.proofs.Common.{◌≡◌, ◌∙◌, ◌++◌, [], ◌∷◌, List, arith, length, rules, ap, sym, refl, subst}
use Rattle.std.proofs.lemmas.List.{append_assoc, append-nil, nil_from_length}
use Rattle.std.specs.Vec.Iter.{into_iter_items}
use Rattle.gd_office_part.specs.declared.threads.Phase.{Phase}
use Rattle.gd_office_run.specs.Runs.{Outcome, IsRun}
use Rattle.gd_office_run.proofs.Runs.{early, on_err, run_more, rows_more, sessions_more}
use Rattle.gd_office_run.proofs.RunShares.{holds_more}
use Rattle.gd_office_run.proofs.office.run_phases.Goals as goal

pub loop-phase-init : goal.loop-phase-init
loop-phase-init g c =
    let same : into_iter_items c.into_iter-phase-iterator.result ≡ c.args.phases.items = search rules in
    record {
      small = search arith;
      run = ([], [], same, (refl, tt, (λ k d below. elim below [ ])), c.requires.empty, c.requires.holding, refl);
    }

pub returns-in_err-take_phase-clause-err : goal.returns-in_err-take_phase-clause-err
returns-in_err-take_phase-clause-err g c =
    let run = c.loop-phase.invariant.run in
    on_err c.from_residual.result _
    (early g.J.Days.days (length c.args.office.now.slots.items) c.args.phases.items run.0 (into_iter_items c.loop-phase.phase-iterator) run.1 c.take_phase.new.rows.items run.2 run.3
    (c.in_err-take_phase.ensures.err ∙ run.4))

pub returns-in_default-clause-err : goal.returns-in_default-clause-err
returns-in_default-clause-err g c =
    let run = c.loop-phase.invariant.run in
    early g.J.Days.days (length c.args.office.now.slots.items) c.args.phases.items run.0 (into_iter_items c.loop-phase.phase-iterator) run.1 c.loop-phase.rows.items run.2 run.3 run.4

pub loop-phase-preserved : goal.loop-phase-preserved
loop-phase-preserved g c =
    let run = c.loop-phase.invariant.run in let done = run.0 in let os = run.1 in let first = c.loop-phase.first in
    let slots = length c.args.office.now.slots.items in
    let p = c.in-Some.phase in
    let step = c.in-Some.ensures.steps in
    let items : into_iter_items c.loop-phase.phase-iterator ≡ p ∷ into_iter_items c.next.new.self = search rules in
    let adds = c.in_ok-take_phase.ensures.ok in let lists = adds.0 in let desks = adds.1 in
    let o : Outcome = record { first = first; phase = p; lists = lists; desks = desks } in
    let number = run.6 in let next = c.in-Some-next_number.ensures.0 in let more = sessions_more os o in
    record {
      small = c.in-Some-next_number.ensures.1;
      run = (
        done ++ p ∷ [],
        os ++ o ∷ [],
        append_assoc done (p ∷ []) (into_iter_items c.next.new.self) ∙ ap (λ (ps : List Phase). done ++ ps) (sym items) ∙ run.2,
        run_more g.J.Days.days slots done p first lists desks os run.3 adds.2 number,
        rows_more os first p lists desks c.loop-phase.rows.items c.take_phase.new.rows.items run.4 adds.3,
        holds_more slots c.loop-phase.holding c.take_phase.new.holding os first p lists desks run.5 adds.4 adds.5,
        omega (arith, next, number, more),
      );
    }

pub returns-clause-ok : goal.returns-clause-ok
returns-clause-ok g c =
    let run = c.loop-phase.invariant.run in
    let end : into_iter_items c.loop-phase.phase-iterator ≡ [] =
    let s = c.in-None.ensures.steps.0 in let o = c.loop-phase.phase-iterator.rest.ok in nil_from_length (into_iter_items c.loop-phase.phase-iterator) (omega arith) in
    let all : run.0 ≡ c.args.phases.items = sym (append-nil run.0) ∙ ap (λ (ps : List Phase). run.0 ++ ps) (sym end) ∙ run.2 in
    (run.1, subst (λ (ps : List Phase). IsRun g.J.Days.days (length c.args.office.now.slots.items) ps run.1) all run.3, run.4, run.5)
