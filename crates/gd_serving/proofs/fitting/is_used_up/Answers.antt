use Rattle.std.proofs.Common.{sym, ◌∙◌}
use Rattle.std.proofs.lemmas.Bool.{false≢true}
use Rattle.gd_serving.proofs.Nothing.{no_bytes}
use Rattle.gd_serving.proofs.fitting.is_used_up.Goals as goal
use Rattle.gd_serving.proofs.fitting.is_used_up.Goals.{then-is_empty, else-is_empty}

pub returns-then-is_empty-2-clause-all : goal.returns-then-is_empty-2-clause-all
returns-then-is_empty-2-clause-all c told = elim c.if-is_empty.branch [
  | then-is_empty w ↦ (no_bytes c.args.bytes.now (sym w.if-is_empty.true ∙ c.is_empty.ensures), no_bytes c.args.rows.now (sym c.if-is_empty-2.true ∙ w.value-is ∙ w.is_empty-then-is_empty.ensures), no_bytes c.args.told.now (sym told ∙ c.is_empty-then-is_empty-2.ensures))
  | else-is_empty w ↦ absurd (false≢true (sym w.if-is_empty.false ∙ sym w.value-is ∙ c.if-is_empty-2.true))
]
