use Rattle.std.proofs.Common.{◌≡◌, ◌*ℤ◌, sym, ◌∙◌, rules}
use mir.Syntax.{w128, w64}
use mir.Val.{SFits}
use Rattle.std.proofs.lemmas.Int.{to_z-of_z}
use Rattle.gd_scale.proofs.Bounds.{whole_multiple}
use Rattle.gd_cost.proofs.one.OneCost.times.Goals as goal

pub returns : goal.returns
returns c =
    let n : SFits w64 c.args.count = c.ranges.count in
    let f : SFits w128 c.args.self.number = search rules in
    let r : SFits w128 c.times.result = search rules in
    let e : c.times.result ≡ c.args.count *ℤ c.args.self.number = simp to_z-of_z at c.times.ensures in
    simp to_z-of_z (e ∙ sym (whole_multiple c.args.count c.args.self.number))
