use Rattle.std.proofs.Common.{◌≡◌, None, ◌++◌, ◌∷◌, [], sym, subst}
use Rattle.gd_machine.specs.Day.{Day}
use Rattle.gd_machine.specs.History.{History}
use Rattle.gd_machine.specs.Known.{IsSound}
use Rattle.gd_machine.specs.declared.reply.Reply.{Reply}
use Rattle.gd_machine.specs.Machine.{refusal_of, reply_of}
use Rattle.gd_book_part.specs.Kept.{AreTablesOf}
use Rattle.gd_book.specs.Kept.{AreKept}
use Rattle.gd_book.proofs.Legal.{sound_kept, kept_more, refused}
use Rattle.gd_book.proofs.ledger.Ledger.step.Goals as goal

pub returns-in_err-ready-clause-step : goal.returns-in_err-ready-clause-step
returns-in_err-ready-clause-step c =
    refused c.args.self.now.opening c.args.self.now.history.items c.ready.new.self.history.items c.args.event c.from_residual.result c.in_err-ready.field-0.0 c.from_residual.ensures c.in_err-ready.ensures.err c.ready.ensures.same

pub apply-requires-clause-sound : goal.apply-requires-clause-sound
apply-requires-clause-sound c =
    subst (IsSound c.ready.new.self.opening) (sym c.deref.ensures.value) (sound_kept c.ready.new.self.opening c.ready.new.self.tables c.ready.new.self.history.items c.ready.ensures.kept)

pub returns-clause-kept : goal.returns-clause-kept
returns-clause-kept c =
    let day : Day = c.ready.new.self.opening in
    let h : History = c.ready.new.self.history.items in
    let none = subst (λ (d : Day). refusal_of d h c.args.event ≡ None) (sym c.ready.ensures.day) (subst (λ (g : History). refusal_of c.args.self.now.opening g c.args.event ≡ None) (sym c.ready.ensures.same) c.in_ok-ready.ensures.ok) in
    let reply : c.in_ok-reply.reply ≡ reply_of day h c.args.event = c.in_ok-reply.ensures.0 in
    let tables = subst (λ (r : Reply). AreTablesOf day c.apply.new.self (h ++ (c.args.event, r) ∷ [])) (sym reply)
    (subst (λ (g : History). AreTablesOf day c.apply.new.self (g ++ (c.args.event, reply_of day g c.args.event) ∷ [])) c.deref.ensures.value c.in_ok-apply.ensures.done) in
    subst (AreKept day c.apply.new.self) (sym c.push_reserved.ensures.items)
    (kept_more day c.ready.new.self.tables c.apply.new.self h (c.args.event, c.in_ok-reply.reply) c.ready.ensures.kept (none, reply) c.requires.passed tables)
