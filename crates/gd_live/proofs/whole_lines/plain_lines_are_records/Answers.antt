use Rattle.gd_live.proofs.Plain.{lines_closed, lines_are}
use Rattle.gd_live.proofs.whole_lines.plain_lines_are_records.Goals as goal

pub returns-clause-closed : goal.returns-clause-closed
returns-clause-closed c = lines_closed

pub returns-clause-records : goal.returns-clause-records
returns-clause-records c = lines_are
