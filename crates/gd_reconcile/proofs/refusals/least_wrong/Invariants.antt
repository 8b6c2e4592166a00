use Rattle.std.proofs.Common.{◌≡◌, ◌≤◌, ◌<◌, length, get_or}
use Rattle.gd_reconcile.specs.Fitting.{lists_of}
use Rattle.gd_reconcile.specs.declared.refusals.Query.{Query}
use Rattle.gd_reconcile.specs.Answering.{LeastWrong}
use Rattle.gd_reconcile.proofs.refusals.least_wrong.Given as goal

abbrev pub invariant-loop-query : goal.invariant-loop-query
invariant-loop-query l =
    record {
      day : l.replay.day ≡ l.fn.replay.day;
      history : l.replay.history ≡ l.fn.replay.history;
      ahead : (q : Query) → l.query-index < length l.queries → l.replay.at ≤ (get_or l.queries l.query-index q).length;
      least : LeastWrong l.fn.replay.day l.fn.replay.history (lists_of l.lists) l.queries l.query-index l.least;
    }
