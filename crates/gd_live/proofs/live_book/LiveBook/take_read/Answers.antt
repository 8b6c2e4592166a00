use Rattle.gd_live.specs.Seen.{stand_of}
use Rattle.std.proofs.Common.{inl, inr, refl, sym, ◌∙◌}
use Rattle.gd_serving.specs.Seen.{seen}
use Rattle.gd_replies.specs.declared.reply.Reply.TheVariants as reply
use Rattle.gd_live.proofs.Standing.{event_row}
use Rattle.gd_live.proofs.Taking.{refused, joined, always}
use Rattle.gd_live.proofs.live_book.LiveBook.take_read.Goals as goal

pub returns-in_default : goal.returns-in_default
returns-in_default g c =
    let s = (stand_of c.args.self.now) in
    refused c.refuse.result s (stand_of c.refuse.new.self) c.args.line.now (seen c.args.given.now) (seen c.refuse.new.given) (reply.Full s.number)
    (inr (inl (c.args.row, c.args.place, c.requires.is, c.in_default.ensures.none, refl)))
    (always c.refuse.result c.refuse.ensures.stand) c.refuse.ensures.given

pub returns-in_default-event_of : goal.returns-in_default-event_of
returns-in_default-event_of g c =
    joined c.wait.result (stand_of c.args.self.now) _ c.wait.new.self c.args.line.now c.args.row c.args.place (seen c.args.given.now) c.requires.is c.in-Some.ensures.some.0
    (sym c.event_of.ensures ∙ c.in_default-event_of.is) refl c.wait.ensures

pub take_call-requires-clause-is : goal.take_call-requires-clause-is
take_call-requires-clause-is g c κs lives = (c.args.place, rw (event_row c.args.row c.in-Some-event_of.event (sym c.event_of.ensures ∙ c.in-Some-event_of.is)) at c.requires.is)
