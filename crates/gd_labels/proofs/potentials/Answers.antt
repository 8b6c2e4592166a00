use Rattle.std.proofs.Common.{◌≡◌, ◌∙◌, length}
use Rattle.gd_labels.proofs.Chains.{label_fits}
use Rattle.gd_labels.proofs.potentials.Goals as goal

pub returns-in-None : goal.returns-in-None
returns-in-None g c =
    let s = c.in_ok-settle.ensures in
    let count : length c.settle.new.self.current.items ≡ c.args.nodes = s.nodes ∙ c.in_ok-search.ensures.nodes in
    record {
      nodes = s.search.labels ∙ count;
      small = rw count at (label_fits g.met.C.Cost.bounded s.search);
      still = rw c.in-None.is at s.still;
    }
