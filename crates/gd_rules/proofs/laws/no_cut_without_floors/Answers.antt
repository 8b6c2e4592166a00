use Rattle.gd_rules.proofs.NoFloors as NoFloors
use Rattle.gd_rules.proofs.laws.no_cut_without_floors.Goals as goal

pub returns : goal.returns
returns c = NoFloors.no_cut
