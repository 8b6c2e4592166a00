use Rattle.std.proofs.Common.{◌≡◌, ◌∷◌, rules, vec_len}
use Rattle.std.specs.Vec.Iter.{into_iter_items}
use Rattle.gd_office.proofs.Numbering.{days_first, day_next, days_left}
use Rattle.gd_office.proofs.office.slots_of.Goals as goal

pub loop-book-init : goal.loop-book-init
loop-book-init g c =
    let same : into_iter_items c.into_iter-book-iterator.result ≡ c.args.books.items = search rules in
    let none : vec_len c.args.room ≡ 0 = let e = c.requires.empty in search rules in
    record {
      left = search rules;
      room = search rules;
      numbered = rw c.requires.empty (λ i slot at. cc);
      days = days_first g.J.Days.days _ c.args.books.items _ none same c.requires.days;
    }

pub put_next-requires-clause-day : goal.put_next-requires-clause-day
put_next-requires-clause-day g c =
    let step = c.in-Some.ensures.steps in
    let items : into_iter_items c.loop-book.book-iterator ≡ c.in-Some.book ∷ into_iter_items c.next.new.self = search rules in
    day_next g.J.Days.days (vec_len c.loop-book.slots) (into_iter_items c.loop-book.book-iterator) (into_iter_items c.next.new.self) c.in-Some.book items c.loop-book.invariant.days

pub loop-book-preserved : goal.loop-book-preserved
loop-book-preserved g c =
    let step = c.in-Some.ensures.steps in
    let was = c.loop-book.invariant in
    let put = c.put_next.ensures in
    let items : into_iter_items c.loop-book.book-iterator ≡ c.in-Some.book ∷ into_iter_items c.next.new.self = search rules in
    record {
      left = search rules;
      room = search rules;
      numbered = put.numbered;
      days = days_left g.J.Days.days (vec_len c.loop-book.slots) _ (into_iter_items c.loop-book.book-iterator) (into_iter_items c.next.new.self) c.in-Some.book items put.len was.days;
    }
