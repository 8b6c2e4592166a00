use Rattle.gd_machine.specs.declared.event.Event.TheVariants as event
use Rattle.gd_machine.specs.declared.call.Call.TheVariants as call
use Rattle.gd_course.proofs.Posting.{told}
use Rattle.gd_course.proofs.settle.settle.Goals as goal

pub returns-in-Impossible-clause-posted : goal.returns-in-Impossible-clause-posted
returns-in-Impossible-clause-posted g c =
    let b = c.args.book.now in
    told call.Settle b.day b.history c.declare_as.new.book.history (event.Declare c.args.moment c.round-round.result c.in-Impossible.cut) c.args.note.now (λ rows. rows.items) c.declare_as.result (λ o. tt) c.declare_as.ensures.gives
