-- What the fields of a network stand for.
use Rattle.std.specs.Prelude.{◌+◌, length}
use Rattle.gd_network.specs.Arcs.{arc_count}
use Rattle.gd_network.specs.Beginning.{Laid, IsFirst}
use Rattle.gd_network.specs.Flow.{IsCirculation}
use Rattle.gd_network.specs.Entries.{FirstArcs}
use Rattle.gd_network.specs.Links.{AreLinks, lists}
use Rattle.gd_network.specs.declared.network.Network.TheInside.{Inside}

abbrev pub laid_of : Inside → Laid
laid_of n = record { question = n.question.now; arcs = n.arcs.items; first = n.first }

-- All arcs of the question's network are there, and the flow to begin with balances.
pub record IsLaid (n : Inside) : Type 0 where
  pub arcs : FirstArcs n.question.now.asked (arc_count n.question.now.asked) n.arcs.items
  pub links : AreLinks (length n.question.now.asked.elements + 1) n.arcs.items (length n.arcs.items)
      (lists n.links.items)
  pub first : IsFirst n.arcs.items n.first
  pub balances : IsCirculation n.arcs.items n.first
