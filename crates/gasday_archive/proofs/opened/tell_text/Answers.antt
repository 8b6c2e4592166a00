use Rattle.std.proofs.Common.{Err, ap, inl, inr, refl, subst}
use Rattle.std.proofs.lemmas.Result.{IfOk-weaker}
use Rattle.gd_machine.specs.Day.{Day}
use Rattle.gd_book.specs.Kept.{Kept}
use Rattle.gd_day.specs.Calls.{calls_of}
use Rattle.gd_day.specs.Opening.{Opened}
use Rattle.gasday_archive.specs.Runs.{TellsDate, TellsMade, TellsOf}
use Rattle.gasday_archive.proofs.Telling.{unopened}
use Rattle.gasday_archive.proofs.opened.tell_text.Goals as goal

pub returns-in-Ok-open : goal.returns-in-Ok-open
returns-in-Ok-open g c =
    let t = c.tell_book-told.ensures in
    let means = subst (λ (d : Day). TellsOf g.S.Store (TellsMade g.S.Store c.args.is_strict d (calls_of c.args.rows.items)) c.open-in-Ok-open.result c.tell_book-told.result.archive t.told) (ap (λ (k : Kept). k.day) c.in-Ok-open.ensures.ok) t.means in
    record { told = t.told; means = inl (inl (c.in-Ok.calendar, c.in-Ok.ensures.ok, (c.open-in-Ok-open.result, c.open-in-Ok-open.ensures, means))); is = t.is }

pub returns-in-Ok : goal.returns-in-Ok
returns-in-Ok g c =
    let o : Opened = record { date = c.args.text.date; zone = c.args.text.zone; book = c.args.text.book; holdings = c.args.text.contracts; carry = c.args.text.carry.items } in
    unopened (TellsDate g.S.Store (g.O.Opener.opens c.args.opener) c.args.is_strict c.args.rows.items o) c.unopened.result.archive (Err _) c.unopened.result.answer c.unopened.ensures.archive c.unopened.ensures.answer tt

pub returns : goal.returns
returns g c =
    let o : Opened = record { date = c.args.text.date; zone = c.args.text.zone; book = c.args.text.book; holdings = c.args.text.contracts; carry = c.args.text.carry.items } in
    unopened (TellsDate g.S.Store (g.O.Opener.opens c.args.opener) c.args.is_strict c.args.rows.items o) c.unopened-in-Err.result.archive c.of_no_calendar.result c.unopened-in-Err.result.answer c.unopened-in-Err.ensures.archive c.unopened-in-Err.ensures.answer
    (IfOk-weaker c.of_no_calendar.result _ _ (λ a t. inr (c.in-Err.fault, t.0, c.in-Err.ensures.err, refl, t.1)) c.of_no_calendar.ensures)
