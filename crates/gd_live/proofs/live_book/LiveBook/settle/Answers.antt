use Rattle.gd_live.specs.Seen.{stand_of}
use Rattle.gd_serving.specs.Seen.{seen}
use Rattle.gd_text_part.specs.declared.row.EventRow.TheVariants as event
use Rattle.gd_live.proofs.Taking.{as_it_came}
use Rattle.gd_live.proofs.live_book.LiveBook.settle.Goals as goal

pub returns-in_default : goal.returns-in_default
returns-in_default g c =
    as_it_came c.make.result (stand_of c.args.self.now) (stand_of c.make.new.self) c.args.line.now (event.Settle c.args.moment) c.requires.is.0 (seen c.args.given.now) (seen c.make.new.given) c.requires.is.1 c.requires.has_room
    c.make.ensures.made c.make.ensures.settle
