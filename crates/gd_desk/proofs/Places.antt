-- Items by slot, one more.
use Rattle.std.proofs.Common.{◌≡◌, ℕ, ◌+◌, List, [], ◌∷◌, ◌++◌, length, arith, subst}
use Rattle.gd_desk.specs.Desks.{EachFrom}

pub each_more : {X : Type 0} (P : ℕ → X → Type 0) (n m : ℕ) (xs : List X) (x : X) → EachFrom P n xs → m ≡ n + length xs → P m x → EachFrom P n (xs ++ x ∷ [])
each_more P n m [] x all is here = let same : m ≡ n = omega (arith, is) in (subst (λ (j : ℕ). P j x) same here, tt)
each_more P n m (y ∷ xs) x all is here = (all.0, each_more P (n + 1) m xs x all.1 (omega (arith, is)) here)
