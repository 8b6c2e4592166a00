use Rattle.gd_live.specs.Seen.{stand_of}
use Rattle.std.proofs.Common.{Ok, ap}
use Rattle.gd_serving.specs.Seen.{seen}
use Rattle.gd_text_part.specs.declared.row.EventRow.TheVariants as event
use Rattle.gd_live.proofs.Taking.{as_it_came_on, settled}
use Rattle.gd_live.proofs.live_book.LiveBook.settle_as.Goals as goal

pub returns-then-branch : goal.returns-then-branch
returns-then-branch g c =
    settled (stand_of c.args.self.now) (stand_of c.conclude-concluded.new.self) c.args.line.now c.args.moment c.requires.is.0 c.args.conclusion.group c.args.conclusion.line.items c.args.conclusion.event
    (seen c.args.given.now) (seen c.conclude-concluded.new.given) c.requires.is.1 c.requires.has_room c.requires.conclusion (c.in_ok-concluded.ensures.made (ap Ok c.if-branch.true)) (c.in_ok-concluded.ensures.grew (ap Ok c.if-branch.true))

pub returns : goal.returns
returns g c =
    let same = c.in_ok-concluded.ensures.not (ap Ok c.if-branch.false) in
    as_it_came_on c.make.result (stand_of c.args.self.now) (stand_of c.conclude-concluded.new.self) (stand_of c.make.new.self) c.args.line.now (event.Settle c.args.moment) c.requires.is.0
    (seen c.args.given.now) (seen c.conclude-concluded.new.given) (seen c.make.new.given) (ap stand_of same.0) (ap seen same.1) c.requires.is.1 c.requires.has_room c.make.ensures.made c.make.ensures.settle
