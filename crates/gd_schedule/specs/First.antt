-- Searches for the first number that fails.
use Rattle.std.specs.Prelude.{ℕ, ◌<◌, Option, Some, None}

-- P holds below n.
abbrev pub Each : ℕ → (ℕ → Type 0) → Type 0
Each n P = (k : ℕ) → k < n → P k

-- The first number below n at which P fails is k.
abbrev pub FailsFirst : ℕ → (ℕ → Type 0) → ℕ → Type 0
FailsFirst n P k = (k < n) × (P k → ⊥) × ((j : ℕ) → j < k → P j)

-- A search for the first number at which P fails.
abbrev pub FoundFirst : ℕ → (ℕ → Type 0) → Option ℕ → Type 0
FoundFirst n P None = Each n P
FoundFirst n P (Some k) = FailsFirst n P k
