use Rattle.std.specs.Prelude.{◌⊎◌}
use Rattle.std.proofs.Common.{◌≡◌, ◌+◌, inl, inr, Result, Err}
use Rattle.gd_text_part.specs.declared.fault.TextFault.{TextFault}
use Rattle.gd_text_part.specs.declared.fault.TextFault.TheVariants as fault
use Rattle.gd_question.specs.Posing.{Posed}
use Rattle.gd_text.specs.Building.{built_from}
use Rattle.gd_text.specs.Values.{question_step}
use Rattle.std.proofs.lemmas.Result.{err_from_is_err_and}
use Rattle.gd_text.proofs.Building.{goes_on, stops, is_done}
use Rattle.gd_text.proofs.values.add_lines.Goals as goal

either : (f : TextFault) (built step : Result Posed TextFault) → (step ≡ Err f → built ≡ Err f) → (f ≡ fault.OutOfMemory) ⊎ (step ≡ Err f) → (f ≡ fault.OutOfMemory) ⊎ (built ≡ Err f)
either f built step go (inl m) = inl m
either f built step go (inr e) = inr (go e)

pub returns-in_err-add_line : goal.returns-in_err-add_line
returns-in_err-add_line c =
    let p = err_from_is_err_and c.from_residual.result c.from_residual.ensures.1 in
    rw (p.1, p.2) (either _ (built_from question_step 1 c.args.builder.now c.args.rows.now) (question_step (c.rows.index + 1) c.rows.builder c.index-rows-index.result)
    (λ e. stops question_step (c.rows.index + 1) c.rows.index c.rows.builder c.index-rows-index.result c.args.rows.now _ (built_from question_step 1 c.args.builder.now c.args.rows.now) c.rows-test.true c.index-rows-index.is e c.rows.invariant)
    c.in_err-add_line.ensures)

pub rows-preserved : goal.rows-preserved
rows-preserved c =
    goes_on question_step (c.rows.index + 1) c.rows.index c.rows.builder c.add_line.new.builder c.index-rows-index.result c.args.rows.now (built_from question_step 1 c.args.builder.now c.args.rows.now) c.rows-test.true c.index-rows-index.is c.in_ok-add_line.ensures c.rows.invariant

pub returns : goal.returns
returns c = is_done question_step (c.rows.index + 1) c.rows.index c.rows.builder c.args.rows.now (built_from question_step 1 c.args.builder.now c.args.rows.now) c.rows-test.false c.rows.invariant
