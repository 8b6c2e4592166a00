use Rattle.std.proofs.Common.{◌≡◌, []}
use Rattle.std.specs.Prelude.{replicate}
use Rattle.gd_network.specs.Links.{lists}
use Rattle.gd_network.proofs.links.no_links.Given as goal

abbrev pub invariant-loop-node : goal.invariant-loop-node
invariant-loop-node l = lists l.links.items ≡ replicate l.node []
