use Rattle.std.proofs.Common.{◌≡◌, ℕ, ◌+◌, ◌<◌, ◌∷◌, ◌++◌, [], List, map, sym, subst, arith}
use Rattle.gd_mincost.specs.Gains.{IsGainAt, AreGains, gain_at}
use Rattle.gd_mincost.proofs.Table.{each_more, gains_more, pushed_meanings}
use Rattle.gd_mincost.proofs.gains.gains.Goals as goal

pub loop-number-preserved : goal.loop-number-preserved
loop-number-preserved g c =
    let s = g.C.Cost.scale in
    let f = g.C.Cost.meaning in
    let unit : ℕ → ℕ → g.C.Cost.Meaning = λ class tenth. f (g.C.ByClass.at class tenth) in
    let k : ℕ = c.loop-number.number in
    let old : List g.C.Cost.Meaning = map f c.loop-number.gains.items in
    let x : g.C.Cost.Meaning = f c.gain_of.result in
    let i = c.loop-number.invariant in
    let e : map f c.push.new.self.items ≡ old ++ x ∷ [] = pushed_meanings f c.loop-number.gains.items c.push.new.self.items c.gain_of.result c.in_ok-push.ensures.items in
    record {
      all = subst (AreGains s g.C.Cost.within (k + 1)) (sym e) (gains_more s g.C.Cost.within old k x i.all c.gain_of.ensures.small);
      each = subst (λ xs. (a : ℕ) → a < k + 1 → IsGainAt s unit c.args.network.now.question.asked a (gain_at s xs a)) (sym e)
          (each_more s (IsGainAt s unit c.args.network.now.question.asked) old k x i.all.size i.each c.gain_of.ensures.is);
    }

pub returns-clause-each : goal.returns-clause-each
returns-clause-each g c = λ a h. c.loop-number.invariant.each a (let past = c.loop-number-test.false in let count = c.arc_count-number-end.ensures in omega (arith, past, count, h))
