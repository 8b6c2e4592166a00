use Rattle.std.proofs.Common.{◌≡◌}
use Rattle.gd_book.proofs.replay.Replay.go_to.Given as goal

abbrev pub invariant-loop : goal.invariant-loop
invariant-loop l = record {
  place : l.self.at ≡ l.counter;
  day : l.self.day ≡ l.initial.self.day;
  history : l.self.history ≡ l.initial.self.history;
}
