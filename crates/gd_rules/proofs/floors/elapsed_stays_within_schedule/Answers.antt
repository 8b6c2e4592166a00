use Rattle.gd_rules.proofs.Elapsed.{stays_within}
use Rattle.gd_rules.proofs.floors.elapsed_stays_within_schedule.Goals as goal

pub returns : goal.returns
returns c = λ passed day scheduled class waived ceiling ends kept. stays_within passed day scheduled ends class waived ceiling kept
