-- The class of a line under a contract, or why it has none.
use Rattle.std.specs.Prelude.{ℕ, List, length, Option, Some, None, Result, Ok, Err}
use Rattle.gd_rules.specs.Class as rules
use Rattle.gd_tree.specs.Grown.{route_of}
use Rattle.gd_system.specs.Pipeline.{Pipeline, elements_of}
use Rattle.gd_system.specs.Route.{ends_of}
use Rattle.gd_system.specs.declared.part.Ends.{Ends}
use Rattle.gd_system.specs.declared.RouteFault.{RouteFault}
use Rattle.gd_contracts.specs.Holdings.{Holdings, contract_named}
use Rattle.gd_contracts.specs.declared.contract.Contract.{Contract}
use Rattle.gd_contracts.specs.declared.contract.Service.{Service}
use Rattle.gd_contracts.specs.declared.contract.Service.TheVariants.{Firm, Interruptible}
use Rattle.gd_contracts.specs.declared.ClassFault.{ClassFault}
use Rattle.gd_contracts.specs.declared.ClassFault.TheVariants.{UnknownContract, Route}

-- The segments from the place of the one end to that of the other.
abbrev pub route_between : Pipeline → Ends → List ℕ
route_between p e = route_of (elements_of p) (length p.tree) e.origin_place.0 e.dest_place.0

abbrev pub firm_between : Pipeline → Result Ends RouteFault → Result rules.Service RouteFault
firm_between p (Ok primary) = Ok (rules.Service.Firm primary.origin.0 primary.dest.0 (route_between p primary))
firm_between p (Err fault) = Err fault

-- The service by numbers: firm between its primary ends over the route between them, or interruptible at its band. No contract that is held has a refusal.
abbrev pub bought : Pipeline → Service → Result rules.Service RouteFault
bought p (Firm origin dest) = firm_between p (ends_of p origin dest)
bought p (Interruptible band) = Ok (rules.Service.Interruptible band)

abbrev pub class_between : Pipeline → Ends → Result rules.Service RouteFault → Result ℕ ClassFault
class_between p line (Ok service) = Ok (rules.class_of service line.origin.0 line.dest.0 (route_between p line))
class_between p line (Err fault) = Err (Route fault)

abbrev pub class_routed : Pipeline → Service → Result Ends RouteFault → Result ℕ ClassFault
class_routed p service (Ok line) = class_between p line (bought p service)
class_routed p service (Err fault) = Err (Route fault)

abbrev pub class_under : Pipeline → Option Contract → Result Ends RouteFault → Result ℕ ClassFault
class_under p None line = Err UnknownContract
class_under p (Some contract) line = class_routed p contract.service line

-- The class of a line between two names under the contract of a name, or the first refusal.
abbrev pub class_answer : Holdings → List ℕ → List ℕ → List ℕ → Result ℕ ClassFault
class_answer h contract origin dest = class_under h.pipeline (contract_named h.contracts contract) (ends_of h.pipeline origin dest)
