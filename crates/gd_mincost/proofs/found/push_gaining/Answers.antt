use Rattle.std.proofs.Common.{rules, ◌≡◌, true, map, to_z, of_z, arith}
use Rattle.std.specs.Prelude.{ℤ, pos, ◌≤ℤ◌, FitsSigned}
use Rattle.std.proofs.lemmas.Int.{ints}
use Rattle.std.specs.Int.{w64}
use Rattle.gd_mincost.proofs.Value.{push_rises}
use Rattle.gd_mincost.proofs.found.push_gaining.Goals as goal

pub returns-clause-rises : goal.returns-clause-rises
returns-clause-rises g c = λ pushed.
    let does : c.in_ok-does_gain.field-0 ≡ true = search rules in
    let walk = c.in_ok-does_gain.ensures does in
    let z : ℤ = c.least_room-amount.result in
    let fits : FitsSigned w64 z = record { sfits = c.least_room-amount.type_inv } in
    let some : pos 1 ≤ℤ to_z w64 (of_z w64 z) = let above = c.if-amount-le0.false in grind (arith, ints) in
    push_rises g.C.Cost.scale g.met.C.Cost.lawful (map g.C.Cost.meaning c.args.gains.now) c.args.network.now.arcs c.args.walk.now c.args.flow.now c.push.new.flow (to_z w64 (of_z w64 z)) c.requires.feasible.size walk.steps some walk.rises c.push.ensures.pushed
