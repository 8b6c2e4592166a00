-- That a line has a class under a contract.
use Rattle.std.specs.Prelude.{◌≡◌, ℕ, List, Some, Ok}
use Rattle.gd_rules.specs.Class as rules
use Rattle.gd_system.specs.Pipeline.{Pipeline}
use Rattle.gd_system.specs.Route.{ends_of}
use Rattle.gd_system.specs.Ends.{IsTheRoute}
use Rattle.gd_system.specs.declared.part.Ends.{Ends}
use Rattle.gd_contracts.specs.Holdings.{Holdings, contract_named}
use Rattle.gd_contracts.specs.declared.contract.Contract.{Contract}
use Rattle.gd_contracts.specs.declared.contract.Service.{Service}
use Rattle.gd_contracts.specs.declared.contract.Service.TheVariants.{Firm, Interruptible}

-- The class of the tariff for a line between these ends over this route: for firm service by its primary ends and the one route between them.
abbrev pub IsClass : Pipeline → Service → Ends → List ℕ → ℕ → Type 0
IsClass p (Firm origin dest) line route class =
    (primary : Ends) × (over : List ℕ) × (ends_of p origin dest ≡ Ok primary) × IsTheRoute p origin dest over
    × (class ≡ rules.class_of (rules.Service.Firm primary.origin.0 primary.dest.0 over) line.origin.0 line.dest.0 route)
IsClass p (Interruptible band) line route class = class ≡ rules.class_of (rules.Service.Interruptible band) line.origin.0 line.dest.0 route

-- There is such a contract, one route leads from the origin to the destination, and the line over it has this class.
pub record HasClass (h : Holdings) (contract origin dest : List ℕ) (class : ℕ) : Type 0 where
  pub agreed : Contract
  pub line : Ends
  pub route : List ℕ
  pub found : contract_named h.contracts contract ≡ Some agreed
  pub told : ends_of h.pipeline origin dest ≡ Ok line
  pub leads : IsTheRoute h.pipeline origin dest route
  pub is : IsClass h.pipeline agreed.service line route class
