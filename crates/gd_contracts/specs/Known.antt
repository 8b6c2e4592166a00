-- What holds of all contracts.
use Rattle.std.specs.Prelude.{◌≡◌, ◌≤◌, length, map, All, Ok}
use Rattle.std.specs.List.{IsDistinct}
use Rattle.gd_rules.specs.Limits.{most_contracts, bands}
use Rattle.gd_system.specs.Pipeline.{Pipeline, same_name}
use Rattle.gd_system.specs.Route.{ends_of}
use Rattle.gd_system.specs.Known.{IsSystem}
use Rattle.gd_system.specs.declared.part.Ends.{Ends}
use Rattle.gd_contracts.specs.Holdings.{Holdings}
use Rattle.gd_contracts.specs.declared.contract.Service.{Service}
use Rattle.gd_contracts.specs.declared.contract.Service.TheVariants.{Firm, Interruptible}

-- Interruptible service has one of the rate bands.
abbrev pub IsBanded : Service → Type 0
IsBanded (Firm origin dest) = Unit {0}
IsBanded (Interruptible band) = (1 ≤ band) × (band ≤ bands)

-- A route leads between the primary ends of firm service.
abbrev pub IsServed : Pipeline → Service → Type 0
IsServed p (Firm origin dest) = (ends : Ends) × (ends_of p origin dest ≡ Ok ends)
IsServed p (Interruptible band) = IsBanded (Interruptible band)

-- No two contracts have one name, and the service of each is one that the pipeline has.
pub record AreHoldings (h : Holdings) : Type 0 where
  pub system : IsSystem h.pipeline
  pub few : length h.contracts ≤ most_contracts
  pub distinct : IsDistinct same_name (map (λ c. c.name) h.contracts)
  pub served : All (λ c. IsServed h.pipeline c.service) h.contracts
