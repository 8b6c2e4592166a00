use Rattle.std.proofs.Common.{◌-◌}
use Rattle.gd_day.specs.ElementNames as named
use Rattle.gd_machine.specs.declared.event.Event.TheVariants as event
use Rattle.gd_machine.specs.declared.call.Call.TheVariants as call
use Rattle.gd_course.proofs.Posting.{declared, told}
use Rattle.gd_course.proofs.event.call.Goals as goal

pub returns-in-Nominate-clause-posted : goal.returns-in-Nominate-clause-posted
returns-in-Nominate-clause-posted g c =
    let b = c.args.book.now in
    let e = c.in-Nominate in
    told call.Nominate b.day b.history c.nominate.new.book.history (event.Nominate e.moment e.party e.key e.quantity) c.args.note.now (λ rows. rows.items) c.nominate.result (λ o. tt) c.nominate.ensures.gives

pub returns-in-Respond-clause-posted : goal.returns-in-Respond-clause-posted
returns-in-Respond-clause-posted g c =
    let b = c.args.book.now in
    let e = c.in-Respond in
    told call.Respond b.day b.history c.respond.new.book.history (event.Respond e.moment e.party (e.line - 1) e.end e.quantity) c.args.note.now (λ rows. rows.items) c.respond.result (λ o. tt) c.respond.ensures.gives

pub returns-in-Post-clause-posted : goal.returns-in-Post-clause-posted
returns-in-Post-clause-posted g c =
    let b = c.args.book.now in
    let e = c.in-Post in
    told call.Post b.day b.history c.post.new.book.history (event.PostCapacity e.moment (named.element_named b.day.holdings.pipeline e.element) e.capacity) c.args.note.now (λ rows. rows.items) c.post.result (λ o. tt) c.post.ensures.gives

pub returns-in-Freeze-clause-posted : goal.returns-in-Freeze-clause-posted
returns-in-Freeze-clause-posted g c =
    let b = c.args.book.now in
    told call.Freeze b.day b.history c.freeze.new.book.history (event.Freeze c.in-Freeze.moment) c.args.note.now (λ rows. rows.items) c.freeze.result (λ o. tt) c.freeze.ensures.gives

pub returns-in-Declare-clause-posted : goal.returns-in-Declare-clause-posted
returns-in-Declare-clause-posted g c =
    let b = c.args.book.now in
    declared b.day b.history c.declare.new.book.history c.in-Declare.moment c.in-Declare.round c.args.group.now c.args.note.now (λ rows. rows.items) c.declare.result c.declare.ensures.gives

pub returns-in-Waive-clause-posted : goal.returns-in-Waive-clause-posted
returns-in-Waive-clause-posted g c =
    let b = c.args.book.now in
    let e = c.in-Waive in
    told call.Waive b.day b.history c.waive.new.book.history (event.Waive e.moment (e.line - 1)) c.args.note.now (λ rows. rows.items) c.waive.result (λ o. tt) c.waive.ensures.gives

pub returns-in-Skip-clause-posted : goal.returns-in-Skip-clause-posted
returns-in-Skip-clause-posted g c =
    let b = c.args.book.now in
    told call.Skip b.day b.history c.skip.new.book.history (event.Skip c.in-Skip.moment) c.args.note.now (λ rows. rows.items) c.skip.result (λ o. tt) c.skip.ensures.gives
