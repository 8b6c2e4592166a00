use Rattle.std.proofs.Common.{◌≡◌, subst, sym, rules}
use Rattle.gd_book.specs.Kept.{Kept}
use Rattle.gd_office_part.specs.Days.{IsDayOf}
use Rattle.gasday_office.proofs.answer.summary_in.Goals as goal

pub returns : goal.returns
returns g c =
    let days = g.J.Days.days in
    let b = c.book-book.result.now in
    let number : c.deref.result.now.slot ≡ c.args.slot.now.number = search rules in
    let own = subst (λ (n : _). IsDayOf days n c.deref.result.now.book.day) number c.book-book.ensures.day in
    let here = subst (λ (k : Kept). IsDayOf days c.args.slot.now.number k.day) (sym c.book-book.ensures.book) own in
    ((b.day, b.history), (here, (c.history.ensures.legal, c.history.ensures.passed, c.history.ensures.holds)), c.summary_of.ensures)
