use Rattle.std.proofs.Common.{rules, ℕ, pos, ◌+ℤ◌, ◌*ℤ◌, ◌+◌, ◌*◌, ◌<◌, w64, to_z, arith, ap, ◌∙◌, ℤ, add-one}
use mir.Val.{SFits}
use Rattle.std.proofs.lemmas.Int.{to_z-of_z}
use Rattle.gd_scale.specs.Sum.{sum_int}
use Rattle.gd_rules.specs.Question.{crossing}
use Rattle.gd_rules.specs.Schedule.{quantity}
use Rattle.gd_schedule.specs.Sizes.{IsSized}
use Rattle.gd_schedule.proofs.Sizes.{sized_more, sized_fits}
use Rattle.gd_schedule.proofs.Schedule.load.Goals as goal

pub loop-line-preserved : goal.loop-line-preserved
loop-line-preserved c =
    let n : SFits w64 c.brought-load.result = search rules in
    let below : c.loop-line.line < 20000 = (let few = c.known.ensures.few_lines in omega arith) in
    let sized : IsSized ((c.loop-line.line + 1) * 1000000000) (to_z w64 c.loop-line.load-bits +ℤ c.brought-load.result) = sized_more c.loop-line.line 1000000000 (to_z w64 c.loop-line.load-bits) c.brought-load.result c.loop-line.invariant.sized c.brought-load.ensures.small in
    let f : SFits w64 (to_z w64 c.loop-line.load-bits +ℤ c.brought-load.result) = sized_fits ((c.loop-line.line + 1) * 1000000000) (to_z w64 c.loop-line.load-bits +ℤ c.brought-load.result) (omega arith) sized in
    let t : ℕ → ℤ = λ i. crossing c.args.question.now.asked i c.args.element.0 *ℤ pos (quantity c.args.self.now i) in
    record {
      is = simp (to_z-of_z, add-one) (ap (λ z. z +ℤ c.brought-load.result) c.loop-line.invariant.is ∙ ap (λ z. sum_int c.loop-line.line t +ℤ z) c.brought-load.ensures.is);
      sized = simp to_z-of_z sized;
    }
