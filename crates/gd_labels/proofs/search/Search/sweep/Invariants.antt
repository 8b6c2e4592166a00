use Rattle.std.proofs.Common.{◌≡◌, ◌<◌, length, map, ℕ, true, false}
use Rattle.gd_labels.specs.Searches.{IsSearch, improves, room}
use Rattle.gd_labels.proofs.search.Search.sweep.Given as goal

-- While none has risen no link so far improves; then the labels can rise less far.
abbrev pub invariant-loop-i : goal.invariant-loop-i
invariant-loop-i g l =
    let m = g.C.Cost in
    record {
      search : IsSearch m.scale m.within m.meaning l.links l.self;
      nodes : length l.self.current.items ≡ length l.fn.self.current.items;
      still : l.raised ≡ false → (k : ℕ) → k < l.i → improves m.scale m.meaning l.links l.self k ≡ false;
      same : l.raised ≡ false → map m.meaning l.self.label.items ≡ map m.meaning l.fn.self.label.items;
      less : l.raised ≡ true → room m.size m.rank m.meaning (length l.fn.self.current.items) l.self < room m.size m.rank m.meaning (length l.fn.self.current.items) l.fn.self;
    }
