use Rattle.std.specs.Prelude.{◌⊎◌}
use Rattle.std.specs.List.{IsDistinct}
use Rattle.std.proofs.Common.{ℕ, ◌≡◌, ◌+◌, List, subst, inl, inr, Result, Err}
use Rattle.gd_rules.specs.Lines.{Key, same_key}
use Rattle.gd_text_part.specs.declared.fault.TextFault.{TextFault}
use Rattle.gd_text_part.specs.declared.fault.TextFault.TheVariants as fault
use Rattle.gd_day.specs.Carrying.{carry_step, carry_of}
use Rattle.std.proofs.lemmas.Result.{err_from_is_err_and}
use Rattle.gd_text.proofs.Building.{goes_on, stops, is_done}
use Rattle.gd_day.proofs.carry.carry_of.Goals as goal

either : (f : TextFault) (built step : Result (List (Key × ℕ)) TextFault) → (step ≡ Err f → built ≡ Err f) → (f ≡ fault.OutOfMemory) ⊎ (step ≡ Err f) → (f ≡ fault.OutOfMemory) ⊎ (built ≡ Err f)
either f built step go (inl m) = inl m
either f built step go (inr e) = inr (go e)

pub returns-in_err-add_carry-clause-carried : goal.returns-in_err-add_carry-clause-carried
returns-in_err-add_carry-clause-carried c =
    let p = err_from_is_err_and c.from_residual.result c.from_residual.ensures.1 in
    let total = carry_of c.args.rows.now in
    rw (p.1, p.2) (either _ total (carry_step (c.rows.index + 1) c.rows.carry.items c.index-rows-index.result)
    (λ e. stops carry_step (c.rows.index + 1) c.rows.index c.rows.carry.items c.index-rows-index.result c.args.rows.now _ total c.rows-test.true c.index-rows-index.is e c.rows.invariant.built)
    c.in_err-add_carry.ensures.added)

pub rows-preserved : goal.rows-preserved
rows-preserved c = record {
  built = goes_on carry_step (c.rows.index + 1) c.rows.index c.rows.carry.items c.add_carry.new.carry.items c.index-rows-index.result c.args.rows.now (carry_of c.args.rows.now) c.rows-test.true c.index-rows-index.is c.in_ok-add_carry.ensures.added c.rows.invariant.built;
  kept = c.in_ok-add_carry.ensures.kept;
  distinct = c.in_ok-add_carry.ensures.distinct;
}

pub returns : goal.returns
returns c = record {
  carried = is_done carry_step (c.rows.index + 1) c.rows.index c.rows.carry.items c.args.rows.now (carry_of c.args.rows.now) c.rows-test.false c.rows.invariant.built;
  distinct = subst (IsDistinct same_key) c.rows.invariant.kept c.rows.invariant.distinct;
}
