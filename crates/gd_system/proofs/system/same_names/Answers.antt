use Rattle.std.proofs.Common.{ap}
use Rattle.std.specs.Map.{keys_of}
use Rattle.std.proofs.lemmas.Slice.Eq.{slice_eq-Decides}
use Rattle.gd_system.proofs.Same.{entries_decided, units_decided, same_keys}
use Rattle.gd_system.proofs.system.same_names.Goals as goal

pub returns : goal.returns
returns c =
    let d = slice_eq-Decides (entries_decided units_decided) c.entries.result.now c.entries-2.result.now c.eq.result c.eq.ensures in
    let same = rw (c.entries.ensures.are, c.entries-2.ensures.are) at d in
    (λ e. ap keys_of (same.0 e), λ k. same.1 (same_keys c.args.a.now.entries c.args.b.now.entries k))
