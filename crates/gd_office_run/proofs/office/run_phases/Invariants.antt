use Rattle.std.proofs.Common.{◌≡◌, ◌++◌, ◌+◌, ◌≤◌, ◌^◌, List, length}
use Rattle.std.specs.Vec.Iter.{into_iter_items}
use Rattle.gd_office_part.specs.declared.threads.Phase.{Phase}
use Rattle.gd_office_run.specs.Runs.{Outcome, IsRun, run_rows}
use Rattle.gd_office_run.specs.RunShares.{Holds}
use Rattle.gd_office_run.proofs.Runs.{sessions_in}
use Rattle.gd_office_run.proofs.office.run_phases.Given as goal

-- The phases so far were run, told and held, and those that are left stand behind them.
abbrev pub invariant-loop-phase : goal.invariant-loop-phase
invariant-loop-phase g l =
    record {
      small : l.first ≤ 2 ^ 62;
      run : (done : List Phase) × (os : List Outcome) × (done ++ into_iter_items l.phase-iterator ≡ l.fn.phases.items)
          × IsRun g.J.Days.days (length l.office.slots.items) done os × (l.rows.items ≡ run_rows os)
          × Holds (length l.office.slots.items) l.holding os × (l.first ≡ 1 + sessions_in os);
    }
