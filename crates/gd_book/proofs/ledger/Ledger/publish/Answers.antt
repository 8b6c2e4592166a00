use Rattle.std.proofs.Common.{◌++◌, ◌∷◌, [], sym, subst, ap, ◌∙◌}
use Rattle.gd_machine.specs.Day.{Day}
use Rattle.gd_machine.specs.declared.event.Event.{Event}
use Rattle.gd_machine.specs.declared.reply.Reply.{Reply}
use Rattle.gd_machine.specs.History.{History}
use Rattle.gd_book.specs.Postings.{AllPosted}
use Rattle.gd_book.proofs.Legal.{refused}
use Rattle.gd_book.proofs.Posting.{all_more, all_stay}
use Rattle.gd_book.proofs.ledger.Ledger.publish.Goals as goal

pub returns-in_err-reply-clause-step : goal.returns-in_err-reply-clause-step
returns-in_err-reply-clause-step c =
    refused c.args.self.now.opening c.args.self.now.history.items c.post.new.self.history.items c.args.event c.from_residual.result c.in_err-reply.field-0.0 c.from_residual.ensures c.in_err-reply.ensures.err c.post.ensures.same

pub returns-in_err-reply-clause-all_posted : goal.returns-in_err-reply-clause-all_posted
returns-in_err-reply-clause-all_posted c all =
    let day : Day = c.args.self.now.opening in
    let h : History = c.args.self.now.history.items in
    subst (λ (g : History). AllPosted day g c.post.new.note) (sym c.post.ensures.same)
    (all_stay day h c.args.note.now c.post.new.note c.post.ensures.stays all)

pub returns-clause-all_posted : goal.returns-clause-all_posted
returns-clause-all_posted c all =
    let day : Day = c.args.self.now.opening in
    let h : History = c.args.self.now.history.items in
    let p : Event × Reply = (c.args.event, c.in_ok-reply.reply) in
    subst (λ (g : History). AllPosted day g c.post.new.note)
    (sym (c.close.ensures.more ∙ ap (λ (g : History). g ++ p ∷ []) c.post.ensures.same))
    (all_more day h p c.args.note.now c.post.new.note c.post.ensures.stays c.in_ok-reply.ensures.posted all)
