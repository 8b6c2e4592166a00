use Rattle.std.proofs.Common.{sym, ◌∙◌, subst}
use Rattle.gd_flow.specs.Keeping.{IsKept}
use Rattle.gd_flow.proofs.Amiss.{first_kept}
use Rattle.gd_flow.proofs.mending.repair.Goals as goal

pub mend_all-requires : goal.mend_all-requires
mend_all-requires c =
    let first = c.in_ok-first_flow.field-0 in
    subst (IsKept c.args.network.arcs) (sym (c.deref_mut.ensures.value ∙ c.into_amounts-flow.ensures))
    (first_kept _ c.args.network.arcs first c.known.ensures.sound c.in_ok-first_flow.ensures.small c.in_ok-first_flow.ensures.balances)
