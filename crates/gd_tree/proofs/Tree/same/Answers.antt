use Rattle.std.proofs.Common.{ap, map}
use Rattle.std.proofs.lemmas.Slice.Eq.{slice_eq-Decides}
use Rattle.gd_tree.specs.View.{segment_of}
use Rattle.gd_tree.proofs.Same.{segments_decided, segments_same}
use Rattle.gd_tree.proofs.Tree.same.Goals as goal

pub returns : goal.returns
returns c =
    let d = slice_eq-Decides segments_decided c.as_slice.result.now c.as_slice-2.result.now c.eq.result c.eq.ensures in
    let e = rw (c.as_slice.ensures.value, c.as_slice-2.ensures.value) at d in
    rw (← c.self.view_is, ← c.other.view_is) (λ t. ap (map segment_of) (e.0 t), λ s. e.1 (segments_same _ _ s))
