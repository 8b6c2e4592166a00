use Rattle.std.proofs.Common.{length, subst}
use Rattle.gd_rules.specs.Tree.{IsTree}
use Rattle.gd_system.specs.Pipeline.{elements_of}
use Rattle.gd_system.specs.SystemInside.{pipeline_of}
use Rattle.gd_system.proofs.Making.{system_tree}
use Rattle.gd_system.proofs.system.System.known.Goals as goal

pub returns-clause-tree : goal.returns-clause-tree
returns-clause-tree c = subst (λ p. IsTree (length p.places) (elements_of p)) c.self.view_is (system_tree (pipeline_of c.self.inside) c.self.invariant)
