use Rattle.std.proofs.Common.{◌≡◌, ◌<◌, ℕ, length, get_or, Some}
use Rattle.gd_system.specs.Route.{element_at}
use Rattle.gd_question.specs.Known.{limit_of}
use Rattle.gd_book_part.proofs.tables.own_capacities.Given as goal

-- The capacities so far.
abbrev pub invariant-loop-at : goal.invariant-loop-at
invariant-loop-at l = record {
  sized : length l.limits.items ≡ l.at;
  own : (k : ℕ) → k < l.at → limit_of (element_at l.system k) ≡ Some (get_or l.limits.items k 0);
}
