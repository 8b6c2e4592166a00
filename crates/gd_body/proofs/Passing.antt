-- Rows that change nothing of what is built.
use Rattle.std.proofs.Common.{◌≡◌, ℕ, zero, suc, ◌+◌, List, [], ◌∷◌, ◌++◌, length, Result, Ok, refl, ap, ◌∙◌, arith}
use Rattle.std.specs.List.{AllByRecursion, range_with_len}
use Rattle.gd_text_part.specs.declared.fault.TextFault.{TextFault}
use Rattle.gd_text_part.specs.declared.row.Row.{Row}
use Rattle.gd_text.specs.Building.{built_from}

-- a row that each step passes over
pub record Passes {X : Type 0} (step : ℕ → X → Row → Result X TextFault) (r : Row) : Type 0 where
  pub over : (n : ℕ) (x : X) → step n x r ≡ Ok x

module _ {X : Type 0} (step : ℕ → X → Row → Result X TextFault) where
  -- one row on
  pub built_on : (n : ℕ) (x y : X) (r : Row) (rows : List Row) → step n x r ≡ Ok y → built_from step n x (r ∷ rows) ≡ built_from step (n + 1) y rows
  unfolding built_from
  built_on n x y r rows e = rw e refl

  pub passed : (rows rest : List Row) (n : ℕ) (x : X) → AllByRecursion (Passes step) rows → built_from step n x (rows ++ rest) ≡ built_from step (n + length rows) x rest
  passed [] rest n x all = let same : n ≡ n + 0 = omega arith in ap (λ k. built_from step k x rest) same
  passed (r ∷ rows) rest n x all =
      let same : n + 1 + length rows ≡ n + suc (length rows) = omega arith in
      built_on n x x r (rows ++ rest) (all.0.over n x) ∙ passed rows rest (n + 1) x all.1 ∙ ap (λ k. built_from step k x rest) same

  pub all_passed : (rows : List Row) (n : ℕ) (x : X) → AllByRecursion (Passes step) rows → built_from step n x rows ≡ Ok x
  unfolding built_from
  all_passed [] n x all = refl
  all_passed (r ∷ rows) n x all = built_on n x x r rows (all.0.over n x) ∙ all_passed rows (n + 1) x all.1

-- numbers in two parts
pub range_parts : (m n total from : ℕ) → total ≡ m + n → range_with_len from total ≡ range_with_len from m ++ range_with_len (from + m) n
range_parts zero n total from is =
    let all : total ≡ n = omega (arith, is) in
    let here : from ≡ from + 0 = omega arith in
    ap (range_with_len from) all ∙ ap (λ k. range_with_len k n) here
range_parts (suc m) n zero from is = absurd (omega (arith, is))
range_parts (suc m) n (suc total) from is =
    let next : from + 1 + m ≡ from + suc m = omega arith in
    ap (λ l. from ∷ l) (range_parts m n total (from + 1) (omega (arith, is)) ∙ ap (λ k. range_with_len (from + 1) m ++ range_with_len k n) next)
