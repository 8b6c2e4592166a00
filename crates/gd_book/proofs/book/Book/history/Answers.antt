use Rattle.std.proofs.Common.{subst}
use Rattle.gd_machine.specs.Headline.{Holds}
use Rattle.gd_machine.proofs.Holding.{headline}
use Rattle.gd_book.specs.Kept.{Kept}
use Rattle.gd_book.proofs.book.Book.history.Goals as goal

pub returns-clause-holds : goal.returns-clause-holds
returns-clause-holds c =
    subst (λ (b : Kept). Holds b.day b.history) c.self.view_is
    (headline c.self.inside.ledger.opening c.self.inside.ledger.history.items c.self.invariant.opened c.self.invariant.legal c.self.invariant.passed)
