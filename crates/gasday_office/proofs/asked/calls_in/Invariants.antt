use Rattle.std.proofs.Common.{◌≡◌, ◌++◌, map, drop}
use Rattle.gasday_office.specs.Phases.{phase}
use Rattle.gasday_office.specs.Calls.{seen_phase, asked_phase, pipelines}
use Rattle.gasday_office.proofs.asked.calls_in.Given as goal

-- The phases so far, and those that are left, are all.
abbrev pub invariant-phases : goal.invariant-phases
invariant-phases l =
    map seen_phase l.all.items ++ map (asked_phase (pipelines l.days)) (map phase (drop l.phase-index l.phases))
    ≡ map (asked_phase (pipelines l.days)) (map phase l.phases)
