use Rattle.std.proofs.Common.{refl, subst}
use Rattle.gd_serving.specs.Seen.{seen}
use Rattle.gd_serving.specs.Yields.{Yield}
use Rattle.gd_serving.proofs.Nothing.{alone}
use Rattle.gd_serving.proofs.fitting.take_again.Goals as goal

pub returns : goal.returns
returns g c =
    let given = seen c.take_line.new.given in
    let (y, gave, adds) = c.in_ok-take_line.ensures in (
      given,
      subst (λ (z : Yield). g.D.TakesLines.gives c.args.desk.now c.args.line.now c.take_line.new.self z) (alone (seen c.clear.new.self) given y c.clear.ensures adds) gave,
      refl,
      (rw (← c.as_slice.ensures.value) c.in-Some.ensures, rw (← c.as_slice-2.ensures.value) c.in-Some-behind.ensures),
    )
