use Rattle.std.proofs.Common.{rules, ◌≡◌, pos, ◌*ℤ◌, neg_ℤ, ◌≤ℤ◌, w64, to_z, arith, ap, of_z, ℤ}
use mir.Val.{SFits}
use Rattle.std.proofs.lemmas.Int.{to_z-of_z, ints}
use Rattle.gd_schedule.specs.Sizes.{IsSized}
use Rattle.gd_schedule.proofs.Sizes.{times_sized, as_signed}
use Rattle.gd_schedule.proofs.loads.brought.Goals as goal

kept : (c d : ℤ) → IsSized 1000000000 c → d ≡ c → IsSized 1000000000 (to_z w64 (of_z w64 d))
kept c d p e =
    let low : neg_ℤ (pos 1000000000) ≤ℤ c = p.low in
    let high : c ≤ℤ pos 1000000000 = p.high in
    let f : SFits w64 c = omega (arith, ints) in
    rw e (simp to_z-of_z p)

pub returns-clause-small : goal.returns-clause-small
returns-clause-small c =
    let n : SFits w64 c.crossing.result = search rules in
    let p = times_sized 1 1000000000 c.get.result c.crossing.result c.crossing.ensures.small c.get.ensures.bound in
    kept (c.crossing.result *ℤ pos c.get.result) (to_z w64 (of_z w64 c.crossing.result) *ℤ to_z w64 c.get.result) p (simp to_z-of_z (ap (λ z. c.crossing.result *ℤ z) (as_signed c.get.result c.get.ensures.bound)))
