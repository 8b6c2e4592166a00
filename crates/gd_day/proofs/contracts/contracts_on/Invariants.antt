use Rattle.std.proofs.Common.{◌≡◌, ◌+◌, drop}
use Rattle.gd_text.specs.Building.{built_from}
use Rattle.gd_contracts.specs.Adding.{none_on}
use Rattle.gd_day.specs.ContractRows.{contract_step}
use Rattle.gd_day.proofs.contracts.contracts_on.Given as goal

-- What the rows that are left make of the contracts is what all of them make of none.
abbrev pub invariant-rows : goal.invariant-rows
invariant-rows l = built_from contract_step (l.index + 1) l.contracts (drop l.index l.rows) ≡ built_from contract_step 1 (none_on l.fn.system) l.rows
