use Rattle.std.proofs.Common.{◌≤◌, ◌-◌, length, drop, arith}
use Rattle.std.proofs.KnownBytes.{Appends-trans}
use Rattle.std.proofs.lemmas.List.{take_all, length-drop}
use Rattle.std.proofs.Math.Seq.{take-add}
use Rattle.gd_serving.proofs.output.write_bytes.Goals as goal

pub loop-done-preserved : goal.loop-done-preserved
loop-done-preserved g c =
    let bytes = c.args.bytes.now in
    let done = c.loop-done.done in
    let left = length-drop done bytes in
    let short : length (drop done bytes) ≤ length bytes - done = omega (arith, left) in
    let whole = take_all (length bytes - done) (drop done bytes) short in
    let took = rw whole at c.in-Ok.ensures.bytes in
    let bound = rw whole at c.in-Ok.ensures.bound in
    record {
      told = rw (take-add done c.in-Ok.count bytes) (Appends-trans _ _ _ _ _ c.loop-done.invariant.told took);
      within = omega (arith, bound, left);
    }
