-- What an exact check of a certificate answers.
use Rattle.std.specs.Prelude.{◌≡◌, ◌≢◌, ℕ, ℤ, pos, ◌+◌, ◌<◌, Bool, List, length, ◌⊎◌, IsTrue}
use Rattle.gd_scale.specs.Scale.{Scale, AtMost}
use Rattle.gd_rules.specs.Question.{Question, element, line}
use Rattle.gd_rules.specs.Schedule.{IsAllowed, load, quantity}
use Rattle.gd_rules.specs.Priced.{IsPriced, Clears, price, margin}
use Rattle.gd_rules.specs.Limits.{most_price_word}
use Rattle.gd_schedule.specs.First.{Each, FailsFirst}
use Rattle.gd_schedule.specs.Exact as schedules
use Rattle.gd_schedule.specs.declared.Broken.TheVariants.{OutOfMemory as NoMemory}
use Rattle.gd_certificate.specs.declared.CertFault.{CertFault}
use Rattle.gd_certificate.specs.declared.CertFault.TheVariants.{Shape, Broken, PriceTooLarge, PriceOnSlack, Underfilled, Overfilled, OutOfMemory}

-- The parts of a certificate, in the order in which they are checked.
module _ {V : Type 0} (s : Scale V) (within : ℤ → V → Bool) (unit : ℕ → ℕ → V) (q : Question) (schedule : List ℕ) (prices : List V) where
  -- Each whole number of the price is at most the greatest size.
  abbrev pub SmallAt : ℕ → Type 0
  SmallAt e = IsTrue (within (pos most_price_word) (price s prices e))

  -- The price fits the element's load.
  abbrev pub ClearsAt : ℕ → Type 0
  ClearsAt e = Clears s (element q e) (load q schedule e) (price s prices e)

  -- Below its ceiling the line gains nothing by its next dekatherm.
  abbrev pub FilledAt : ℕ → Type 0
  FilledAt i = quantity schedule i < (line q i).ceiling → AtMost s (margin s unit q prices i (quantity schedule i + 1)) s.none

  -- Above its floor the line loses nothing by its last dekatherm.
  abbrev pub WorthwhileAt : ℕ → Type 0
  WorthwhileAt i = (line q i).floor < quantity schedule i → AtMost s s.none (margin s unit q prices i (quantity schedule i))

  -- All is well.
  pub record Passes : Type 0 where
    pub allowed : IsAllowed q schedule
    pub small : Each (length q.elements) SmallAt
    pub priced : IsPriced s unit q schedule prices

  abbrev pub Shaped : Type 0
  Shaped = (length schedule ≡ length q.lines) × (length prices ≡ length q.elements)

  abbrev pub Allowed : Type 0
  Allowed = IsAllowed q schedule × (length prices ≡ length q.elements)

  -- What is wrong, and all that is checked before it is right.
  abbrev pub Explains : CertFault → Type 0
  Explains Shape = (length schedule ≢ length q.lines) ⊎ (length prices ≢ length q.elements)
  Explains (Broken b) = Shaped × (b ≢ NoMemory) × schedules.Explains q schedule b
  Explains (PriceTooLarge e) = Allowed × FailsFirst (length q.elements) SmallAt e.0
  Explains (PriceOnSlack e) = Allowed × Each (length q.elements) SmallAt × FailsFirst (length q.elements) ClearsAt e.0
  Explains (Underfilled i) = Allowed × Each (length q.elements) SmallAt × Each (length q.elements) ClearsAt × FailsFirst (length q.lines) FilledAt i
  Explains (Overfilled i) = Allowed × Each (length q.elements) SmallAt × Each (length q.elements) ClearsAt × Each (length q.lines) FilledAt × FailsFirst (length q.lines) WorthwhileAt i
  Explains OutOfMemory = Shaped × schedules.Bounded q schedule
