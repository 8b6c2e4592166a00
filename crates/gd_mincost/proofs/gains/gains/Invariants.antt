use Rattle.std.proofs.Common.{ℕ, ◌<◌, map}
use Rattle.gd_mincost.specs.Gains.{IsGainAt, AreGains, gain_at}
use Rattle.gd_mincost.proofs.gains.gains.Given as goal

abbrev pub invariant-loop-number : goal.invariant-loop-number
invariant-loop-number g l = record {
  all : AreGains g.C.Cost.scale g.C.Cost.within l.number (map g.C.Cost.meaning l.gains.items);
  each : (a : ℕ) → a < l.number → IsGainAt g.C.Cost.scale (λ class tenth. g.C.Cost.meaning (g.C.ByClass.at class tenth)) l.network.question.asked a (gain_at g.C.Cost.scale (map g.C.Cost.meaning l.gains.items) a);
}
