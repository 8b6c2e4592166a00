use Rattle.std.proofs.Common.{map}
use Rattle.gd_labels.proofs.Roots.{AreRoots}
use Rattle.gd_labels.proofs.search.Search.start.Given as goal

-- The nodes so far.
abbrev pub invariant-loop-v : goal.invariant-loop-v
invariant-loop-v g l = AreRoots g.C.Cost.scale l.v l.search.node.items l.search.before.items l.search.link.items l.search.current.items (map g.C.Cost.meaning l.search.label.items)
