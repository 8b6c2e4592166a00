-- How refusals are printed: by their names, and a refusal of a route by its own.
use Rattle.std.specs.Prelude.{ℕ, List, codes}
use Rattle.gd_system.specs.Names.{route_fault_name}
use Rattle.gd_contracts.specs.declared.ContractFault.{ContractFault}
use Rattle.gd_contracts.specs.declared.ContractFault.TheVariants as contract
use Rattle.gd_contracts.specs.declared.ClassFault.{ClassFault}
use Rattle.gd_contracts.specs.declared.ClassFault.TheVariants as class

abbrev pub contract_fault_name : ContractFault → List ℕ
contract_fault_name contract.Duplicate = codes "Duplicate"
contract_fault_name (contract.Route fault) = route_fault_name fault
contract_fault_name contract.TooMany = codes "TooMany"
contract_fault_name contract.OutOfMemory = codes "OutOfMemory"

abbrev pub class_fault_name : ClassFault → List ℕ
class_fault_name class.UnknownContract = codes "UnknownContract"
class_fault_name (class.Route fault) = route_fault_name fault
