-- What contracts see of slots and sessions.
use Rattle.std.specs.Prelude.{ℕ, List}
use Rattle.gd_office_part.specs.declared.numbers.Numbers.{Numbers}

-- A slot by its number and the cells of its board.
pub record Slot : Type 0 where
  pub number : ℕ
  pub board : List ℕ

-- A session by its slot's number, its party and what was accepted of its calls.
pub record Session : Type 0 where
  pub number : ℕ
  pub party : List ℕ
  pub numbers : Numbers
