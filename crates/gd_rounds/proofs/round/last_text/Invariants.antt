use Rattle.std.proofs.Common.{◌≡◌, ◌≤◌}
use Rattle.std.specs.Prelude.{string_bytes}
use Rattle.std.specs.Option.{MatchOption}
use Rattle.gd_rounds.proofs.Search.{NoneBefore, LastBefore}
use Rattle.gd_rounds.proofs.round.last_text.Given as goal

-- the text is that of the last round before the place
abbrev pub invariant-places : goal.invariant-places
invariant-places l = record {
  day : l.walk.day ≡ l.initial.walk.day;
  history : l.walk.history ≡ l.initial.walk.history;
  at : l.walk.at ≤ l.place;
  found : MatchOption l.found (NoneBefore l.walk.history l.cycle l.round l.place)
      (λ text. LastBefore l.walk.day l.walk.history l.cycle l.round l.place (string_bytes text));
}
