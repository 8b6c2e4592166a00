use Rattle.std.proofs.Common.{◌≡◌, IfSome, vec_len}
use Rattle.gd_desk.specs.Desks.{EachFrom}
use Rattle.gd_desk.proofs.round.fn.round_of.scope.Given as goal

abbrev pub invariant-loop-slot : goal.invariant-loop-slot
invariant-loop-slot g l =
    record {
      len : vec_len l.children ≡ l.slot-index;
      started : EachFrom (λ slot c. IfSome c (λ h. (h.promise.slot ≡ slot) × (h.promise.moment ≡ l.moment.now))) 1 l.children.items;
    }
