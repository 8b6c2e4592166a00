use Rattle.gd_live.proofs.Fronts.{fronts_join, rows_join}
use Rattle.gd_live.proofs.whole_lines.rows_go_on.Goals as goal

pub returns-clause-front : goal.returns-clause-front
returns-clause-front c = fronts_join

pub returns-clause-ended : goal.returns-clause-ended
returns-clause-ended c = rows_join
