use Rattle.std.proofs.Common.{arith, ◌≡◌, ◌<◌, ◌*◌, ℕ, below_more, sym, ◌∙◌, Bool, true, false, ap, refl, length}
use Rattle.gd_labels.specs.Events.{slack}
use Rattle.gd_labels.proofs.search.Search.sweep.Goals as goal
use Rattle.gd_labels.proofs.search.Search.sweep.Goals.{then-improves+in_ok-closes+else-branch+in_ok-raise, else-improves}

below_start : (raised : Bool) (x y z : ℕ) → (raised ≡ false → y ≡ z) → (raised ≡ true → y < z) → x < y → x < z
below_start true x y z same less h = let k = less refl in omega arith
below_start false x y z same less h = let k = same refl in omega arith

pub loop-i-preserved : goal.loop-i-preserved
loop-i-preserved g c =
    let m = g.C.Cost in
    let i = c.loop-i.invariant in
    elim c.if-improves.branch [
      | then-improves+in_ok-closes+else-branch+in_ok-raise w ↦
          let a = w.in_ok-raise.ensures in
          rw (w.self-is, w.raised-is) (record {
            search = a.search;
            nodes = a.nodes ∙ i.nodes;
            still = λ h. absurd (let e : true ≡ false = h in cc);
            same = λ h. absurd (let e : true ≡ false = h in cc);
            less = λ h. below_start c.loop-i.raised _ _ _ (λ k. ap (slack m.size m.rank (16 * length c.args.self.now.current.items)) (i.same k)) i.less (rw i.nodes at a.rises);
          })
      | else-improves w ↦
          rw (w.self-is, w.raised-is) (record {
            search = i.search;
            nodes = i.nodes;
            still = λ h. below_more _ _ (i.still h) (sym c.improves.ensures ∙ w.if-improves.false);
            same = i.same;
            less = i.less;
          })
    ]
