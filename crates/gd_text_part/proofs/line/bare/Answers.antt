use Rattle.std.proofs.Common.{sym, ◌∙◌}
use Rattle.gd_text_part.proofs.LineCuts.{bare_none, bare_off, bare_same}
use Rattle.gd_text_part.proofs.line.bare.Goals as goal
use Rattle.gd_text_part.proofs.line.bare.Goals.{then-is_empty-via-then-is_empty, then-is_empty-via-else-is_empty+then-line-ne13}

pub returns-then-is_empty : goal.returns-then-is_empty
returns-then-is_empty c = elim c.then-is_empty.branch [
  | then-is_empty-via-then-is_empty w ↦ bare_none c.args.line.now (sym c.is_empty.ensures ∙ w.if-is_empty.true)
  | then-is_empty-via-else-is_empty+then-line-ne13 w ↦ bare_same c.args.line.now (sym c.is_empty.ensures ∙ w.if-is_empty.false) w.if-line-ne13.true
]

pub returns : goal.returns
returns c = bare_off c.args.line.now (sym c.is_empty.ensures ∙ c.if-is_empty.false) c.if-line-ne13.false
