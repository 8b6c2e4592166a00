use Rattle.std.specs.Prelude.{◌⊎◌}
use Rattle.std.proofs.Common.{◌≡◌, ◌+◌, inl, inr, Result, Err}
use Rattle.gd_text_part.specs.declared.fault.TextFault.{TextFault}
use Rattle.gd_text_part.specs.declared.fault.TextFault.TheVariants as fault
use Rattle.gd_contracts.specs.Holdings.{Holdings}
use Rattle.gd_day.specs.ContractRows.{contract_step, contracts_on}
use Rattle.std.proofs.lemmas.Result.{err_from_is_err_and}
use Rattle.gd_text.proofs.Building.{goes_on, stops, is_done}
use Rattle.gd_day.proofs.contracts.contracts_on.Goals as goal

either : (f : TextFault) (built step : Result Holdings TextFault) → (step ≡ Err f → built ≡ Err f) → (f ≡ fault.OutOfMemory) ⊎ (step ≡ Err f) → (f ≡ fault.OutOfMemory) ⊎ (built ≡ Err f)
either f built step go (inl m) = inl m
either f built step go (inr e) = inr (go e)

pub returns-in_err-add_contract : goal.returns-in_err-add_contract
returns-in_err-add_contract c =
    let p = err_from_is_err_and c.from_residual.result c.from_residual.ensures.1 in
    let total = contracts_on c.args.rows.now c.args.system in
    rw (p.1, p.2) (either _ total (contract_step (c.rows.index + 1) c.rows.contracts c.index-rows-index.result)
    (λ e. stops contract_step (c.rows.index + 1) c.rows.index c.rows.contracts c.index-rows-index.result c.args.rows.now _ total c.rows-test.true c.index-rows-index.is e c.rows.invariant)
    c.in_err-add_contract.ensures)

pub rows-preserved : goal.rows-preserved
rows-preserved c =
    goes_on contract_step (c.rows.index + 1) c.rows.index c.rows.contracts c.add_contract.new.contracts c.index-rows-index.result c.args.rows.now (contracts_on c.args.rows.now c.args.system) c.rows-test.true c.index-rows-index.is c.in_ok-add_contract.ensures c.rows.invariant

pub returns : goal.returns
returns c = is_done contract_step (c.rows.index + 1) c.rows.index c.rows.contracts c.args.rows.now (contracts_on c.args.rows.now c.args.system) c.rows-test.false c.rows.invariant
