use Rattle.gd_live.proofs.Fresh.{closed_by_state}
use Rattle.gd_live.proofs.whole_lines.state_tells_closed.Goals as goal

pub returns : goal.returns
returns c = closed_by_state
