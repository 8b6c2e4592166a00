use Rattle.std.proofs.Common.{◌≡◌, length}
use Rattle.gd_labels.specs.Searches.{IsSearch, room}
use Rattle.gd_labels.proofs.search.Search.settle.Given as goal

abbrev pub invariant-loop-walk : goal.invariant-loop-walk
invariant-loop-walk g l =
    let m = g.C.Cost in
    record {
      search : IsSearch m.scale m.within m.meaning l.links l.self;
      nodes : length l.self.current.items ≡ length l.fn.self.current.items;
    }

abbrev pub decreases-loop-walk : goal.decreases-loop-walk
decreases-loop-walk g l = room g.C.Cost.size g.C.Cost.rank g.C.Cost.meaning (length l.self.current.items) l.self
