-- A flow with potentials that show it best.
use Rattle.std.specs.Prelude.{◌≡◌, ℕ, ◌+◌, ◌^◌, ◌<◌, ℤ, pos, Bool, List, length, get_or, IsTrue}
use Rattle.gd_scale.specs.Scale.{Scale}
use Rattle.gd_rules.specs.Question.{Question}
use Rattle.gd_question.specs.Posing.{Posed}
use Rattle.gd_network.specs.Arcs.{Net}
use Rattle.gd_network.specs.Flow.{IsCirculation, IsWithin}
use Rattle.gd_network.specs.Potential.{IsGains, IsStill}

pub record Settled (X : Type 0) : Type 0 where
  pub question : Posed
  pub arcs : Net
  pub flow : List ℤ
  pub potentials : List X

-- The greatest size of a number in a potential: the difference of two is no larger than a price may be.
abbrev pub most_potential : ℕ
most_potential = 2 ^ 39

-- The potential of a node.
abbrev pub potential : {V : Type 0} → Scale V → List V → ℕ → V
potential s potentials node = get_or potentials node s.none

-- What a dekatherm of a class is worth in a tenth, as a cost means it.
abbrev pub worth : {C V : Type 0} → (C → V) → (ℕ → ℕ → C) → ℕ → ℕ → V
worth meaning at = λ class tenth. meaning (at class tenth)

-- The flow balances within bounds, each node has a potential that is not too large, and no step that has room gains.
pub record IsSettled {V : Type 0} (s : Scale V) (within : ℤ → V → Bool) (unit : ℕ → ℕ → V)
    (q : Question) (n : Net) (flow : List ℤ) (potentials : List V) : Type 0 where
  pub size : length flow ≡ length n
  pub balances : IsCirculation n flow
  pub bounds : IsWithin n flow
  pub nodes : length potentials ≡ length q.elements + 1
  pub small : (node : ℕ) → node < length potentials → IsTrue (within (pos most_potential) (potential s potentials node))
  pub still : (gain : ℕ → V) → IsGains s unit q gain → IsStill s n flow gain (potential s potentials)
