use Rattle.std.proofs.Common.{length, sym, subst}
use Rattle.gd_live.specs.Stands.{Group, IsGroup}
use Rattle.gd_live.proofs.Standing.{none_waits}
use Rattle.gd_live.proofs.conclusion.group_of.Goals as goal

pub rows-init : goal.rows-init
rows-init c = subst (λ (g : Group). IsGroup (length g.rows) g) (sym c.new-group.ensures) (none_waits 0)
