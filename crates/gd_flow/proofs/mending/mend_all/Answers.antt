use Rattle.std.proofs.Common.{◌≡◌, inl, inr, subst, arith}
use Rattle.std.proofs.lemmas.Bool.{cases_lt}
use Rattle.gd_flow.specs.Keeping.{Holds}
use Rattle.gd_flow.proofs.Amiss.{still_holds}
use Rattle.gd_flow.proofs.mending.mend_all.Goals as goal

pub loop-number-preserved : goal.loop-number-preserved
loop-number-preserved c =
    let n = c.args.network.now.arcs in
    let e = c.in_ok-cut.ensures in
    let k = c.loop-number.number in
    let now : Holds n c.mend.new.flow k = rw c.in_default.is at e.mended in
    record {
      kept = e.kept;
      held = λ a h. elim (cases_lt a k) [
        | inl g ↦ still_holds n c.loop-number.flow c.mend.new.flow a (omega (arith, c.loop-number-test.true, c.arc_count-number-end.ensures, g)) e.nearer (c.loop-number.invariant.held a g)
        | inr g ↦ let same : k ≡ a = omega arith in subst (Holds n c.mend.new.flow) same now
      ];
    }
