use Rattle.gd_live.proofs.RowLines.{rows_plain, plain_rows}
use Rattle.gd_live.proofs.whole_lines.row_lines_are_plain.Goals as goal

pub returns-clause-plain : goal.returns-clause-plain
returns-clause-plain c = rows_plain

pub returns-clause-fields : goal.returns-clause-fields
returns-clause-fields c = plain_rows
