-- A flow over a question's network.
use Rattle.std.specs.Prelude.{◌≡◌, ℤ, List, length}
use Rattle.gd_question.specs.Posing.{Posed}
use Rattle.gd_network.specs.Arcs.{Net}
use Rattle.gd_network.specs.Flow.{IsCirculation, IsWithin}

pub record Flowing : Type 0 where
  pub question : Posed
  pub arcs : Net
  pub flow : List ℤ

-- An amount flows along each arc, the flow balances, and each amount lies within its arc's bounds.
pub record IsFeasible (n : Net) (flow : List ℤ) : Type 0 where
  pub size : length flow ≡ length n
  pub balances : IsCirculation n flow
  pub bounds : IsWithin n flow
