use Rattle.std.proofs.Common.{rules, sym}
use Rattle.gd_day.specs.ElementNames.{element_named}
use Rattle.gd_course.proofs.event.post.Goals as goal

-- The element is the one that the pipeline of the book has by this name.
pub returns-clause-gives : goal.returns-clause-gives
returns-clause-gives c =
    let named = element_named c.args.book.now.day.holdings.pipeline c.args.element in
    rw (sym {b = named} (rw c.system.ensures at c.element_named-element.ensures)) (search rules)
