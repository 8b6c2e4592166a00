use Rattle.gd_live.proofs.Standing.{lines_keep}
use Rattle.gd_live.proofs.laws.what_is_kept_are_calls.Goals as goal

pub returns : goal.returns
returns c = lines_keep
