use Rattle.std.proofs.Common.{◌++◌, ◌∷◌, [], sym, subst}
use Rattle.gd_machine.specs.declared.event.Event.{Event}
use Rattle.gd_machine.specs.Day.{Day}
use Rattle.gd_machine.specs.History.{History}
use Rattle.gd_book_part.specs.Kept.{AreTablesOf}
use Rattle.gd_book.specs.Kept.{AreKept}
use Rattle.gd_book.proofs.Legal.{kept_more}
use Rattle.gd_book.proofs.ledger.Ledger.close.Goals as goal

pub returns-clause-kept : goal.returns-clause-kept
returns-clause-kept c =
    let day : Day = c.args.self.now.opening in
    let h : History = c.args.self.now.history.items in
    let tables = subst (λ (g : History). AreTablesOf day c.close_cycle.new.self (g ++ (c.args.event, c.args.reply) ∷ [])) c.deref.ensures.value (subst (λ (e : Event). AreTablesOf day c.close_cycle.new.self (c.deref.result.now ++ (e, c.args.reply) ∷ [])) (sym c.in-Publish.is) (c.close_cycle.ensures c.args.reply)) in
    subst (AreKept day c.close_cycle.new.self) (sym c.push_reserved.ensures.items)
    (kept_more day c.args.self.now.tables c.close_cycle.new.self h (c.args.event, c.args.reply) c.requires.kept (c.requires.accepted, c.requires.reply) c.requires.passed tables)
