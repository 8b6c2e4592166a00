use Rattle.std.proofs.Common.{◌≡◌, ◌++◌, map, drop}
use Rattle.gasday_office.specs.Phases.{session}
use Rattle.gasday_office.specs.Calls.{seen_session, asked_session, pipelines}
use Rattle.gasday_office.proofs.asked.sessions_of.Given as goal

-- The sessions so far, and those that are left, are all.
abbrev pub invariant-sessions : goal.invariant-sessions
invariant-sessions l =
    map seen_session l.all.items ++ map (asked_session (pipelines l.days)) (map session (drop l.session-index l.sessions))
    ≡ map (asked_session (pipelines l.days)) (map session l.sessions)
