-- A test of two bumped lines decides whether they are one.
use Rattle.std.proofs.Common.{◌≡◌, ℕ, ◌&&◌, nat_eq, ap, ap₂}
use Rattle.std.specs.Bool.{Decides}
use Rattle.std.proofs.lemmas.Bool.Decides.{Decides-eqb}
use Rattle.gd_system.proofs.Same.{both}

pub lines_decided : (a b : ℕ × ℕ) → Decides (nat_eq a.0 b.0 && nat_eq a.1 b.1) (a ≡ b)
lines_decided a b =
    both _ _ (Decides-eqb a.0 b.0) (Decides-eqb a.1 b.1) (λ p q. ap₂ (λ (x y : ℕ). (x, y)) p q)
    (λ r. ap (λ (v : ℕ × ℕ). v.0) r) (λ r. ap (λ (v : ℕ × ℕ). v.1) r)
