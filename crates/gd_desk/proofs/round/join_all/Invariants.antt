use Rattle.std.proofs.Common.{◌≡◌, ◌+◌, IfSome, vec_len}
use Rattle.std.specs.Vec.Iter.{into_iter_items, into_iter_len}
use Rattle.gd_desk.specs.Desks.{AreTried, EachFrom}
use Rattle.gd_desk.proofs.round.join_all.Given as goal

-- What is promised yet begins with the slot behind those that have come.
abbrev pub invariant-loop-child : goal.invariant-loop-child
invariant-loop-child g l =
    record {
      left : vec_len l.desks + into_iter_len l.child-iterator ≡ vec_len l.fn.children;
      promised : EachFrom (λ slot c. IfSome c (λ h. (h.promise.slot ≡ slot) × (h.promise.moment ≡ l.moment))) (1 + vec_len l.desks) (into_iter_items l.child-iterator);
      come : AreTried g.J.Days.days l.moment l.desks.items;
    }
