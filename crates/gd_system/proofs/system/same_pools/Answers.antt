use Rattle.std.proofs.lemmas.Slice.Eq.{slice_eq-Decides}
use Rattle.gd_system.proofs.Same.{entries_decided, pools_decided}
use Rattle.gd_system.proofs.system.same_pools.Goals as goal

pub returns : goal.returns
returns c =
    let d = slice_eq-Decides (entries_decided pools_decided) c.entries.result.now c.entries-2.result.now c.eq.result c.eq.ensures in
    rw (c.entries.ensures.are, c.entries-2.ensures.are) at d
