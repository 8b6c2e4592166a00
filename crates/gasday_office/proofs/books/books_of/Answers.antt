use Rattle.std.proofs.Common.{◌≡◌, ◌++◌, ◌∷◌, [], List, arith, rules, subst, sym}
use Rattle.std.specs.Vec.Iter.{into_iter_items}
use Rattle.std.proofs.lemmas.List.{nil_from_length}
use Rattle.gd_book.specs.Kept.{Kept}
use Rattle.gasday_office.proofs.OpenedBooks.{AreOpenedSo, opened_more, opened_all, calendar_first}
use Rattle.gasday_office.proofs.books.books_of.Goals as goal

pub loop-day-preserved : goal.loop-day-preserved
loop-day-preserved c =
    let was = c.loop-day.invariant in
    let step = c.in-Some.ensures.steps in
    let all = c.args.days.items in
    let left = into_iter_items c.loop-day.day-iterator in
    let rest = into_iter_items c.next.new.self in
    let days : left ≡ c.in-Some.day ∷ rest = search rules in
    let own : into_iter_items c.loop-day.calendars ≡ c.in-Some-next.calendar ∷ into_iter_items c.next-in-loop-day.new.self = search rules in
    let both = calendar_first left rest (into_iter_items c.loop-day.calendars) (into_iter_items c.next-in-loop-day.new.self) c.in-Some.day c.in-Some-next.calendar days own was.calendars in
    let pushed : c.push.new.self.items ≡ c.loop-day.books.items ++ c.in_ok-open.field-0 ∷ [] = search rules in
    record {
      left = search rules;
      len = search rules;
      calendars = both.1;
      opened = subst (λ (books : List Kept). AreOpenedSo all books rest) (sym pushed)
          (opened_more all left rest c.loop-day.books.items c.in-Some.day c.in-Some-next.calendar c.in_ok-open.field-0 days was.opened both.0 c.in_ok-open.ensures);
    }

pub returns-clause-each : goal.returns-clause-each
returns-clause-each c =
    let none : into_iter_items c.loop-day.day-iterator ≡ [] =
    let s = c.in-None.ensures.steps.0 in let o = c.loop-day.day-iterator.rest.ok in nil_from_length (into_iter_items c.loop-day.day-iterator) (omega arith) in
    opened_all c.args.days.items (into_iter_items c.loop-day.day-iterator) c.loop-day.books.items none c.loop-day.invariant.opened
