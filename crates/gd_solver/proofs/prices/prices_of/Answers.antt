use Rattle.std.proofs.Common.{◌≡◌, ℕ, ◌+◌, ◌<◌, ◌^◌, ◌++◌, ◌∷◌, [], List, length, map, get_or, IsTrue, subst, sym, ap, ◌∙◌}
use Rattle.std.specs.Prelude.{pos}
use Rattle.gd_scale.specs.Scale.{Scale}
use Rattle.gd_scale.specs.Laws.{less}
use Rattle.gd_question.specs.Nodes.{start, stop}
use Rattle.gd_mincost.specs.Settling.{potential}
use Rattle.gd_solver.proofs.PotentialFalls.{each_with, map_with, length_with}
use Rattle.gd_solver.proofs.prices.prices_of.Goals as goal

pub loop-element-preserved : goal.loop-element-preserved
loop-element-preserved g c =
    let f = g.C.Cost.meaning in
    let sc : Scale g.C.Cost.Meaning = g.C.Cost.scale in
    let q = c.args.network.now.question.asked in
    let k : ℕ = c.loop-element.element in
    let i = c.loop-element.invariant in
    let ms : List g.C.Cost.Meaning = map f c.loop-element.prices.items in
    let x : g.C.Cost.Meaning = f c.fall.result in
    let node = λ (v : ℕ). potential sc (map f c.args.potentials.now) v in
    let e : map f c.push.new.self.items ≡ ms ++ x ∷ [] = ap (map f) c.in_ok-push.ensures.items ∙ map_with f c.loop-element.prices.items c.fall.result in
    record {
      count = ap length e ∙ length_with ms x ∙ ap (λ n. n + 1) i.count;
      falls = subst (λ zs. (e : ℕ) → e < k + 1 → get_or zs e sc.none ≡ less sc (node (start q e)) (node (stop q e))) (sym e)
          (each_with (λ e z. z ≡ less sc (node (start q e)) (node (stop q e))) sc.none ms x k i.count i.falls c.fall.ensures.is);
      small = subst (λ zs. (e : ℕ) → e < k + 1 → IsTrue (g.C.Cost.within (pos (2 ^ 40)) (get_or zs e sc.none))) (sym e)
          (each_with (λ e z. IsTrue (g.C.Cost.within (pos (2 ^ 40)) z)) sc.none ms x k i.count i.small c.fall.ensures.small);
    }
