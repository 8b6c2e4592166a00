-- What a check of a certificate tells before it looks at prices.
use Rattle.std.specs.Prelude.{◌≡◌, ◌≢◌, ℕ, ℤ, List, length, ◌⊎◌}
use Rattle.gd_rules.specs.Question.{Question}
use Rattle.gd_rules.specs.Schedule.{IsAllowed}
use Rattle.gd_schedule.specs.Exact as schedules
use Rattle.gd_schedule.specs.Table.{IsTable}
use Rattle.gd_schedule.specs.declared.Broken.TheVariants.{OutOfMemory as NoMemory}
use Rattle.gd_certificate.specs.declared.CertFault.{CertFault}
use Rattle.gd_certificate.specs.declared.CertFault.TheVariants.{Shape, Broken, PriceTooLarge, PriceOnSlack, Underfilled, Overfilled, OutOfMemory}

-- The schedule is allowed, there are so many prices as elements, and these are the loads.
pub record AreLoads (q : Question) (schedule : List ℕ) (prices : ℕ) (loads : List ℤ) : Type 0 where
  pub allowed : IsAllowed q schedule
  pub shape : prices ≡ length q.elements
  pub table : IsTable q schedule loads

-- What is wrong with the schedule or with the number of prices.
abbrev pub ExplainsLoads : Question → List ℕ → ℕ → CertFault → Type 0
ExplainsLoads q schedule prices Shape = (length schedule ≢ length q.lines) ⊎ (prices ≢ length q.elements)
ExplainsLoads q schedule prices (Broken b) = ((length schedule ≡ length q.lines) × (prices ≡ length q.elements)) × (b ≢ NoMemory) × schedules.Explains q schedule b
ExplainsLoads q schedule prices (PriceTooLarge e) = ⊥
ExplainsLoads q schedule prices (PriceOnSlack e) = ⊥
ExplainsLoads q schedule prices (Underfilled i) = ⊥
ExplainsLoads q schedule prices (Overfilled i) = ⊥
ExplainsLoads q schedule prices OutOfMemory = ((length schedule ≡ length q.lines) × (prices ≡ length q.elements)) × schedules.Bounded q schedule
