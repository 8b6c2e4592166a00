use Rattle.gd_serving.specs.Seen.{seen}
use Rattle.gd_live.specs.Seen.{stand_of}
use Rattle.gd_live.proofs.Standing.{line_given}
use Rattle.gd_live.proofs.desk.DeskTakesLines.take_line.Goals as goal

pub returns : goal.returns
returns g c =
    line_given c.take_line.result (stand_of c.args.self.now.book) (stand_of c.take_line.new.self) c.args.line.now (seen c.args.given.now) (seen c.take_line.new.given) c.take_line.ensures.gives
