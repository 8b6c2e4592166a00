use Rattle.std.proofs.Common.{arith}
use Rattle.gd_text_part.proofs.LineCuts.{first_before, first_at_end}
use Rattle.gd_text_part.proofs.line.first_field.Goals as goal

pub returns-then-line-end-eq44 : goal.returns-then-line-end-eq44
returns-then-line-end-eq44 c = first_before c.args.line.now c.bytes.end c.bytes-test.true c.if-line-end-eq44.true c.bytes.invariant

pub returns : goal.returns
returns c = first_at_end c.args.line.now c.bytes.end (omega arith) c.bytes.invariant
