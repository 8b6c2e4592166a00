use Rattle.std.proofs.Common.{subst}
use Rattle.gd_book.specs.Kept.{Kept}
use Rattle.gd_book.specs.Postings.{AllPosted}
use Rattle.gd_book.proofs.book.Book.publish.Goals as goal

pub returns-clause-all_posted : goal.returns-clause-all_posted
returns-clause-all_posted c =
    subst (λ (b : Kept). AllPosted b.day b.history c.args.note.now → AllPosted b.day c.publish.new.self.history.items c.publish.new.note)
    c.self.view_is c.publish.ensures.all_posted
