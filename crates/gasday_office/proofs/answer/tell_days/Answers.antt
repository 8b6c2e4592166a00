use Rattle.std.proofs.Common.{◌≡◌, length, vec_len, map, inr, refl, rules}
use Rattle.std.proofs.lemmas.Result.{IfOk-weaker}
use Rattle.gasday_office.specs.Phases.{phases_of}
use Rattle.gasday_office.proofs.Calendars.{tells_days}
use Rattle.gasday_office.proofs.answer.tell_days.Goals as goal

pub returns-in-Err : goal.returns-in-Err
returns-in-Err g c =
    let lacks = rw c.as_slice.ensures.value at c.in-Err.ensures.first in
    IfOk-weaker c.of_no_calendar.result _ _ (λ a t. inr (c.in-Err.fault, t.0, lacks, t.1)) c.of_no_calendar.ensures

pub returns : goal.returns
returns g c =
    let days = c.args.days.items in
    let rows = c.args.rows.items in
    let asked = rw c.as_slice-2.ensures.value at c.in_ok-phases.ensures in
    let many : vec_len c.in_ok-books.books ≡ length c.args.days.items = let b = c.in_ok-books.ensures.len in search rules in
    tells_days c.args.is_strict c.tell_books.result days (map (λ b. b.day) c.in_ok-books.books.items) (vec_len c.in_ok-books.books) (phases_of rows) c.in_ok-phases.phases.items rows
    c.in_ok-books.ensures.each refl asked many c.tell_books.ensures
