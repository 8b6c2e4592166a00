use Rattle.std.proofs.Common.{◌≡◌, ◌+◌, ℕ, ◌<◌, vec_len}
use Rattle.std.specs.Vec.Iter.{into_iter_items, into_iter_len}
use Rattle.gd_office_run.specs.Shares.{IsOf, share_at, plus}
use Rattle.gd_office_run.specs.RunShares.{of_desks}
use Rattle.gd_office_run.proofs.desks.hold_desks.Given as goal

-- What a slot has, with what it will have of the desks that are left.
abbrev pub invariant-loop-desk : goal.invariant-loop-desk
invariant-loop-desk g l =
    record {
      left : l.at + into_iter_len l.desk-iterator ≡ vec_len l.fn.desks;
      holding : (slots : ℕ) → IsOf slots l.fn.holding
          → IsOf slots l.holding × ((k : ℕ) → k < slots
          → plus (share_at l.holding k) (of_desks l.at (into_iter_items l.desk-iterator) k) ≡ plus (share_at l.fn.holding k) (of_desks 0 l.fn.desks.items k));
    }
