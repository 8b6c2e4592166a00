use Rattle.gd_live.proofs.Joining.{calls_join_on}
use Rattle.gd_live.proofs.laws.calls_go_on.Goals as goal

pub returns : goal.returns
returns c = calls_join_on
