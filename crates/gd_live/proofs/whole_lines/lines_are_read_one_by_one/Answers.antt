use Rattle.gd_live.proofs.Following.{front_of_lines, rows_of_lines}
use Rattle.gd_live.proofs.whole_lines.lines_are_read_one_by_one.Goals as goal

pub returns-clause-front : goal.returns-clause-front
returns-clause-front c = front_of_lines

pub returns-clause-ended : goal.returns-clause-ended
returns-clause-ended c = rows_of_lines
