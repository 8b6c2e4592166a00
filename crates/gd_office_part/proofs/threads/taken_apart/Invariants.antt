use Rattle.std.proofs.Common.{◌≡◌, ◌++◌, map}
use Rattle.std.specs.Vec.Iter.{into_iter_items}
use Rattle.gd_office_part.specs.Sending.{lists_of}
use Rattle.gd_office_part.proofs.threads.taken_apart.Given as goal

abbrev pub invariant-loop-sent : goal.invariant-loop-sent
invariant-loop-sent l =
    record {
      numbers : l.numbers.items ++ map (λ s. s.numbers) (into_iter_items l.sent-iterator) ≡ map (λ s. s.numbers) l.fn.all.items;
      lists : lists_of l.lists.items ++ map (λ s. s.receipts.items) (into_iter_items l.sent-iterator) ≡ map (λ s. s.receipts.items) l.fn.all.items;
    }
