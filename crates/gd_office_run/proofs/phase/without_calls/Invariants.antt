use Rattle.std.proofs.Common.{◌≡◌, ◌++◌, ◌+◌, map, vec_len}
use Rattle.std.specs.Vec.Iter.{into_iter_items, into_iter_len}
use Rattle.gd_office_run.proofs.phase.without_calls.Given as goal

-- The slots so far, and those of the sessions that are left.
abbrev pub invariant-loop-session : goal.invariant-loop-session
invariant-loop-session l =
    record {
      slots : map (λ s. s.slot) l.left.items ++ map (λ s. s.slot) (into_iter_items l.session-iterator) ≡ map (λ s. s.slot) l.fn.phase.sessions.items;
      len : vec_len l.left + into_iter_len l.session-iterator ≡ vec_len l.fn.phase.sessions;
    }
