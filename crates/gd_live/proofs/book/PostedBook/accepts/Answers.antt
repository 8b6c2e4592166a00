use Rattle.std.proofs.Common.{rules, ◌≡◌, false, sym, subst}
use Rattle.gd_machine.specs.Machine.{is_full}
use Rattle.gd_text_part.specs.declared.row.EventRow.{EventRow}
use Rattle.gd_day.specs.Groups.{Passes}
use Rattle.gd_live.specs.Lines.{IsAcceptable}
use Rattle.gd_live.proofs.Accepting.{published, declared}
use Rattle.gd_live.proofs.book.PostedBook.accepts.Goals as goal

pub returns-in-Publish : goal.returns-in-Publish
returns-in-Publish c passed =
    let day = c.args.self.now.day in
    let h = c.args.self.now.history in
    let room : is_full h ≡ false = search rules in
    let passes : Passes day.holdings.pipeline c.args.group.now = search rules in
    let concludes = rw c.in-Publish.is at c.requires.1 in
    let offered = rw c.in-Some.ensures.1 at (c.offers_best.ensures passed) in
    subst (λ (e : EventRow). IsAcceptable day h c.args.group.now e) (sym c.in-Publish.is)
    (published day h c.in-Publish.moment c.in-Publish.round c.args.group.now c.in-Some.ensures.0 room concludes.1 passes offered.0 offered.1 offered.2 offered.3)

pub returns-in-Declare : goal.returns-in-Declare
returns-in-Declare c passed =
    let day = c.args.self.now.day in
    let h = c.args.self.now.history in
    let room : is_full h ≡ false = search rules in
    let passes : Passes day.holdings.pipeline c.args.group.now = search rules in
    let concludes = rw c.in-Declare.is at c.requires.1 in
    let named = rw c.in-Some.ensures.1 at (c.names_cut.ensures passed) in
    subst (λ (e : EventRow). IsAcceptable day h c.args.group.now e) (sym c.in-Declare.is)
    (declared day h c.in-Declare.moment c.in-Declare.round c.args.group.now c.in-Some.ensures.0 room concludes.1 passes named.0 named.1 named.2 named.3)
