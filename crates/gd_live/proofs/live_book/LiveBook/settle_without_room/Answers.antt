use Rattle.std.proofs.Common.{Ok, inr, refl, ap}
use Rattle.gd_serving.specs.Seen.{seen}
use Rattle.gd_replies.specs.declared.reply.Reply.TheVariants as reply
use Rattle.gd_text_part.specs.declared.row.EventRow.TheVariants as event
use Rattle.gd_live.specs.Seen.{stand_of}
use Rattle.gd_live.specs.Lines.{IsTooLong}
use Rattle.gd_live.proofs.Taking.{refused, as_it_came, always}
use Rattle.gd_live.proofs.live_book.LiveBook.settle_without_room.Goals as goal

pub returns-then-branch : goal.returns-then-branch
returns-then-branch g c =
    let s = stand_of c.args.self.now in
    let long : IsTooLong s c.args.moment = record {
      group = c.args.conclusion.group;
      last = c.args.conclusion.line.items;
      called = c.args.conclusion.event;
      conclusion = c.requires.conclusion;
      acceptable = rw c.rows.ensures at (c.in_ok-accepted.ensures (ap Ok c.if-branch.true));
      full = c.requires.full;
    } in
    refused c.refuse.result s (stand_of c.refuse.new.self) c.args.line.now (seen c.args.given.now) (seen c.refuse.new.given) (reply.Full s.number)
    (inr (inr (inr (c.args.moment, c.requires.is.0, c.requires.is.1, c.requires.has_room, long, refl))))
    (always c.refuse.result c.refuse.ensures.stand) c.refuse.ensures.given

pub returns : goal.returns
returns g c =
    as_it_came c.make.result (stand_of c.args.self.now) (stand_of c.make.new.self) c.args.line.now (event.Settle c.args.moment) c.requires.is.0
    (seen c.args.given.now) (seen c.make.new.given) c.requires.is.1 c.requires.has_room c.make.ensures.made c.make.ensures.settle
