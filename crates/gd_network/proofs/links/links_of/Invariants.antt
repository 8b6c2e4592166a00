use Rattle.gd_network.specs.Links.{AreLinks, lists}
use Rattle.gd_network.proofs.links.links_of.Given as goal

abbrev pub invariant-loop-number : goal.invariant-loop-number
invariant-loop-number l = AreLinks l.nodes l.arcs l.number (lists l.links.items)
