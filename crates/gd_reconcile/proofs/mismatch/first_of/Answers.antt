use Rattle.std.proofs.Common.{Some, inl, inr, sym, ap, ◌∙◌, subst, Option}
use Rattle.gd_reconcile.specs.declared.mismatch.Mismatch.{Mismatch}
use Rattle.gd_reconcile.specs.Answering.{IsBefore}
use Rattle.gd_reconcile.proofs.mismatch.first_of.Goals as goal

pub returns-in-Some-clause-some : goal.returns-in-Some-clause-some
returns-in-Some-clause-some c = (
  elim c.earlier.ensures.one [ inl e ↦ inr (c.in-Some.is ∙ ap (λ (x : Mismatch). Some x) (sym e)) | inr e ↦ inl e ],
  λ a j b. let both = c.earlier.ensures.least a j b in (both.0, subst (λ (o : Option Mismatch). IsBefore a j o) (sym c.in-Some.is) both.1),
)
