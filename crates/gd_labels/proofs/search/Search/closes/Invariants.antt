use Rattle.std.proofs.Common.{◌≡◌, ◌<◌, length, map, get_or, List, ℕ}
use Rattle.gd_labels.specs.Links.{node_at, Trail, gain_of}
use Rattle.gd_labels.specs.Events.{Chain, NotIn}
use Rattle.gd_labels.specs.Searches.{reached, IsSearch}
use Rattle.gd_labels.proofs.SeparateLinks.{IsApart}
use Rattle.gd_labels.proofs.search.Search.closes.Given as goal

-- The links taken lead from the event's node to the end of link i, to no node twice, and with the event's value they gain what link i reaches.
abbrev pub invariant-loop-event : goal.invariant-loop-event
invariant-loop-event g l =
    let m = g.C.Cost in
    let gain = map m.meaning l.links.gain.items in
    let count = length l.self.current.items in
    let end = node_at l.links.to.items l.i in
    let avoids : ℕ → Type 0 = λ e. (us : List ℕ) → Chain l.self.node.items l.self.before.items count e us → NotIn end us in
    record {
      known : l.event < length l.self.node.items;
      trail : Trail l.links.from.items l.links.to.items (node_at l.self.node.items l.event) l.walk.items end;
      worth : (search : IsSearch m.scale m.within m.meaning l.links l.self) → m.scale.plus (get_or search.value l.event m.scale.none) (gain_of m.scale gain l.walk.items) ≡ reached m.scale m.meaning l.links l.self l.i;
      avoids : avoids l.event → avoids (get_or l.self.current.items (node_at l.links.from.items l.i) 0);
      apart : IsApart l.self.node.items l.self.before.items count l.links.to.items l.walk.items l.event end;
    }

abbrev pub decreases-loop-event : goal.decreases-loop-event
decreases-loop-event g l = l.event
