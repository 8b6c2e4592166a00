-- The contracts that shippers hold on a pipeline.
use Rattle.std.specs.Prelude.{ℕ, List, Option}
use Rattle.std.specs.List.{find}
use Rattle.gd_system.specs.Pipeline.{Pipeline, same_name}
use Rattle.gd_contracts.specs.declared.contract.Contract.{Contract}

-- A pipeline, and the contracts on it in order of entry.
pub record Holdings : Type 0 where
  pub pipeline : Pipeline
  pub contracts : List Contract

abbrev pub contract_named : List Contract → List ℕ → Option Contract
contract_named contracts name = find (λ c. same_name name c.name) contracts
