use Rattle.gd_machine.proofs.Holding.{headline}
use Rattle.gd_machine.proofs.laws.every_day_holds.Goals as goal

pub returns : goal.returns
returns c = headline
