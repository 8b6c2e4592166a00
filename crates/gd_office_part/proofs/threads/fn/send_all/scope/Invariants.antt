use Rattle.std.proofs.Common.{◌≡◌, map, take}
use Rattle.gd_office_part.specs.Sending.{asked, asked_all}
use Rattle.gd_office_part.proofs.threads.fn.send_all.scope.Given as goal

-- each thread so far promises what was asked of it
abbrev pub invariant-loop-at : goal.invariant-loop-at
invariant-loop-at g l =
    map (λ h. asked h.promise.slot h.promise.party h.promise.start h.promise.calls.value.items) l.children.items ≡ take l.at (asked_all l.starts l.rows)
