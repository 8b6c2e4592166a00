use Rattle.gd_live.proofs.Following.{closed_goes_on, lines_follow}
use Rattle.gd_live.proofs.whole_lines.lines_follow_a_text.Goals as goal

pub returns-clause-closed : goal.returns-clause-closed
returns-clause-closed c = closed_goes_on

pub returns-clause-records : goal.returns-clause-records
returns-clause-records c = lines_follow
