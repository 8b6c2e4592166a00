-- The contracts that the rows of a text put on its pipeline.
use Rattle.std.specs.Prelude.{ℕ, List, Result, Ok}
use Rattle.gd_system.specs.Pipeline.{Pipeline}
use Rattle.gd_contracts.specs.Holdings.{Holdings}
use Rattle.gd_contracts.specs.Adding.{none_on, after_contract}
use Rattle.gd_contracts.specs.declared.ContractFault.{ContractFault}
use Rattle.gd_contracts.specs.declared.ContractFault.TheVariants as contract
use Rattle.gd_text_part.specs.declared.fault.Cause.TheVariants as cause
use Rattle.gd_text_part.specs.declared.fault.TextFault.{TextFault}
use Rattle.gd_text_part.specs.declared.fault.TextFault.TheVariants as fault
use Rattle.gd_text_part.specs.declared.row.Row.{Row}
use Rattle.gd_text_part.specs.declared.row.Row.TheVariants as row
use Rattle.gd_text.specs.Building.{built_from, result_as}

-- A refusal is told at its row, and want of memory as such.
abbrev pub contract_fault_at : ℕ → ContractFault → TextFault
contract_fault_at n contract.OutOfMemory = fault.OutOfMemory
contract_fault_at n f = fault.Row n (cause.Contract f)

-- The contracts after row n: a `contract` row adds one, and other rows say nothing of them.
abbrev pub contract_step : ℕ → Holdings → Row → Result Holdings TextFault
contract_step n h (row.Contract c) = result_as (contract_fault_at n) (after_contract h c)
contract_step n h r = Ok h

-- A pipeline with the contracts of all rows, or the first refusal.
abbrev pub contracts_on : List Row → Pipeline → Result Holdings TextFault
contracts_on rows p = built_from contract_step 1 (none_on p) rows
