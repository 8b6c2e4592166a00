use Rattle.std.proofs.Common.{◌≡◌, ℕ, ◌≤◌, length}
use Rattle.gd_office_run.specs.Shares.{IsOf, share_at, EndFrom}
use Rattle.gd_office_run.proofs.holding.end_slots.Given as goal

abbrev pub invariant-loop-at : goal.invariant-loop-at
invariant-loop-at g l =
    record {
      of : IsOf (length l.slots) l.holding;
      len : length l.ends.items ≡ l.at;
      left : (k : ℕ) → l.at ≤ k → share_at l.holding k ≡ share_at l.fn.holding k;
      ends : EndFrom g.J.Days.days (share_at l.fn.holding) 0 l.ends.items;
    }
