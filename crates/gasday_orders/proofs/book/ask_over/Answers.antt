use Rattle.std.proofs.Common.{Some, sym, subst}
use Rattle.sqlite.specs.Held.{state}
use Rattle.gasday_live.specs.Asked.{AsksBook}
use Rattle.gasday_orders.specs.Files.{DoesOn, TellsUnopened}
use Rattle.gasday_orders.proofs.Files.{unopened}
use Rattle.gasday_orders.proofs.book.ask_over.Goals as goal

pub returns-in-Ok : goal.returns-in-Ok
returns-in-Ok g c = (
  c.open.result,
  c.open.ensures,
  subst (λ o. DoesOn g.S.Store (λ old new. AsksBook (state g.S.Store old) c.args.inquiry (g.W.Write.contents c.args.writer.now) (g.W.Write.contents c.ask_book-status.new.writer) c.ask_book-status.result.status)
      (TellsUnopened (g.W.Write.contents c.args.writer.now) (g.W.Write.contents c.ask_book-status.new.writer) c.ask_book-status.result.status) o (Some c.ask_book-status.new.conn))
      (sym c.in-Ok.is) (λ clean. (c.ask_book-status.ensures.clean clean, c.ask_book-status.ensures.asked clean)),
)

pub returns-in-Err : goal.returns-in-Err
returns-in-Err g c = (c.open.result, c.open.ensures, unopened g.S.Store _ _ c.open.result c.in-Err.error c.write_unopened.result.file c.in-Err.is c.write_unopened.ensures.file c.write_unopened.ensures.told)
