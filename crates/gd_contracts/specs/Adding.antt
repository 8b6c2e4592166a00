-- Which contracts may be added, and what is held then.
use Rattle.std.specs.Prelude.{ℕ, List, [], ◌∷◌, ◌++◌, length, Option, Some, None, if◌then◌else◌, is_some, nat_le, Result, Ok, Err}
use Rattle.gd_rules.specs.Limits.{most_contracts}
use Rattle.gd_system.specs.Pipeline.{Pipeline}
use Rattle.gd_system.specs.Route.{ends_of}
use Rattle.gd_system.specs.declared.part.Ends.{Ends}
use Rattle.gd_system.specs.declared.RouteFault.{RouteFault}
use Rattle.gd_contracts.specs.declared.contract.Contract.{Contract}
use Rattle.gd_contracts.specs.declared.contract.Service.{Service}
use Rattle.gd_contracts.specs.declared.contract.Service.TheVariants.{Firm, Interruptible}
use Rattle.gd_contracts.specs.declared.ContractFault.{ContractFault}
use Rattle.gd_contracts.specs.declared.ContractFault.TheVariants.{Duplicate, Route, TooMany}
use Rattle.gd_contracts.specs.Holdings.{Holdings, contract_named}

abbrev pub none_on : Pipeline → Holdings
none_on p = record { pipeline = p; contracts = [] }

abbrev pub refusal : Result Ends RouteFault → Option RouteFault
refusal (Ok ends) = None
refusal (Err fault) = Some fault

-- Why no route leads between the primary ends of firm service, if none does.
abbrev pub primary_refusal : Pipeline → Service → Option RouteFault
primary_refusal p (Firm origin dest) = refusal (ends_of p origin dest)
primary_refusal p (Interruptible band) = None

-- What is told with so many contracts there, where the primary ends are refused or not.
abbrev pub routed_within : ℕ → Option RouteFault → Result (Unit {0}) ContractFault
routed_within count (Some fault) = Err (Route fault)
routed_within count None = if nat_le most_contracts count then Err TooMany else Ok tt

-- The first refusal of a contract of this name for this service.
abbrev pub checked_contract : Holdings → List ℕ → Service → Result (Unit {0}) ContractFault
checked_contract h name service = if is_some (contract_named h.contracts name) then Err Duplicate else routed_within (length h.contracts) (primary_refusal h.pipeline service)

abbrev pub with_contract : Holdings → Contract → Holdings
with_contract h c = record h { contracts = h.contracts ++ c ∷ [] }

abbrev pub added : Holdings → Result (Unit {0}) ContractFault → Result Holdings ContractFault
added h (Ok u) = Ok h
added h (Err fault) = Err fault

-- The contracts after one is added, or the first refusal.
abbrev pub after_contract : Holdings → Contract → Result Holdings ContractFault
after_contract h c = added (with_contract h c) (checked_contract h c.name c.service)
