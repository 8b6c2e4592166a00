use Rattle.gd_live.proofs.AmongCalls.{opening_among, rows_among, calls_behind}
use Rattle.gd_live.proofs.whole_lines.rows_begin_again_behind_a_call.Goals as goal

pub returns-clause-opening : goal.returns-clause-opening
returns-clause-opening c = opening_among

pub returns-clause-rows : goal.returns-clause-rows
returns-clause-rows c = rows_among

pub returns-clause-call : goal.returns-clause-call
returns-clause-call c = calls_behind
