use Rattle.gd_rules.proofs.Elapsed.{never_falls}
use Rattle.gd_rules.proofs.floors.elapsed_never_falls.Goals as goal

pub returns : goal.returns
returns c = never_falls
