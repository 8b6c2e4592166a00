use Rattle.std.proofs.Common.{◌<◌, ◌≢◌, length, arith}
use Rattle.gd_system.specs.BuilderInside.{pipeline_of}
use Rattle.gd_system.proofs.Making.{system_of}
use Rattle.gd_system.proofs.builder.SystemBuilder.finish.Goals as goal

pub invariant_of-result : goal.invariant_of-result
invariant_of-result c =
    let p = pipeline_of c.self.inside in
    let apart : c.len.result ≢ 0 = c.if-len-eq0.false in
    let some : 0 < length p.tree = omega (arith, c.len.ensures.is) in
    system_of p c.self.invariant c.len.ensures.grown some
