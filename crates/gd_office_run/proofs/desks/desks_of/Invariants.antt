use Rattle.std.proofs.Common.{◌≡◌, ◌+◌, ℕ, List, IfOk, vec_len}
use Rattle.std.specs.Vec.Iter.{into_iter_items, into_iter_len}
use Rattle.gd_desk.specs.Desks.{AreTried, AreDesks, EachFrom, IsDesk}
use Rattle.gd_machine.specs.Day.{Day}
use Rattle.gd_office_run.proofs.desks.desks_of.Given as goal

-- The desks so far, and what is left behind them.
abbrev pub invariant-loop-desk : goal.invariant-loop-desk
invariant-loop-desk l =
    record {
      each : (days : List Day) (moment : ℕ) → AreTried days moment l.fn.given.items
          → AreDesks days moment l.desks.items
          × EachFrom (λ slot desk. IfOk desk (IsDesk days slot moment)) (1 + vec_len l.desks) (into_iter_items l.desk-iterator);
      len : vec_len l.desks + into_iter_len l.desk-iterator ≡ vec_len l.fn.given;
    }
