use Rattle.std.proofs.Common.{◌≡◌, ◌++◌, map, All}
use Rattle.std.specs.Vec.Iter.{into_iter_items}
use Rattle.gd_office_part.specs.Sending.{asked, asked_all, sent_as, IsStepped}
use Rattle.gd_office_part.proofs.threads.join_all.Given as goal

-- what has come, and what is promised yet, is what was asked
abbrev pub invariant-loop-child : goal.invariant-loop-child
invariant-loop-child g l =
    record {
      sent : map sent_as l.all.items ++ map (λ h. asked h.promise.slot h.promise.party h.promise.start h.promise.calls.value.items) (into_iter_items l.child-iterator)
          ≡ asked_all l.starts l.rows;
      stepped : All (IsStepped g.J.Days.days) l.all.items;
    }
