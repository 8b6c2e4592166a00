-- Rows that build a value, one after the other.
use Rattle.std.proofs.Common.{◌≡◌, ℕ, ◌+◌, ◌<◌, ◌≤◌, List, [], ◌∷◌, length, drop, get_or, Result, Ok, Err, refl, sym, ap, ◌∙◌, arith}
use Rattle.std.proofs.lemmas.List.{drop_more, drop_all}
use Rattle.gd_text_part.specs.Rows.{◌>>=◌}
use Rattle.gd_text_part.specs.declared.fault.TextFault.{TextFault}
use Rattle.gd_text_part.specs.declared.row.Row.{Row}
use Rattle.std.proofs.Common.{Bool, true, false}
use Rattle.std.specs.Prelude.{◌==◌, if◌then◌else◌}
use Rattle.std.proofs.lemmas.Bool.{eq-eqb, ne_eqb}
use Rattle.gd_text_part.specs.declared.fault.TextFault.TheVariants as fault
use Rattle.gd_text_part.specs.declared.fault.Cause.TheVariants as cause
use Rattle.gd_system.specs.Pipeline.{Pipeline}
use Rattle.gd_system.specs.declared.BuildFault.TheVariants as build
use Rattle.gd_text.specs.Values.{finished}
use Rattle.gd_text.specs.Building.{built_from}

-- the row at i is the first of those that are left
pub left : (rows : List Row) (i : ℕ) (r : Row) → i < length rows → r ≡ get_or rows i r → drop i rows ≡ r ∷ drop (i + 1) rows
left rows i r h e = drop_more rows i r h ∙ ap (λ x. x ∷ drop (i + 1) rows) (sym e)

module _ {X : Type 0} (step : ℕ → X → Row → Result X TextFault) where
  one_more : (n : ℕ) (x y : X) (r : Row) (rows : List Row) → step n x r ≡ Ok y → built_from step n x (r ∷ rows) ≡ built_from step (n + 1) y rows
  unfolding built_from
  one_more n x y r rows e = ap (λ (o : Result X TextFault). o >>= λ z. built_from step (n + 1) z rows) e

  one_less : (n : ℕ) (x : X) (r : Row) (rows : List Row) (f : TextFault) → step n x r ≡ Err f → built_from step n x (r ∷ rows) ≡ Err f
  unfolding built_from
  one_less n x r rows f e = ap (λ (o : Result X TextFault). o >>= λ z. built_from step (n + 1) z rows) e

  no_more : (n : ℕ) (x : X) → built_from step n x [] ≡ Ok x
  unfolding built_from
  no_more n x = refl

  -- the row was taken
  pub goes_on : (n i : ℕ) (x y : X) (r : Row) (rows : List Row) (total : Result X TextFault) → i < length rows → r ≡ get_or rows i r → step n x r ≡ Ok y
      → built_from step n x (drop i rows) ≡ total → built_from step (n + 1) y (drop (i + 1) rows) ≡ total
  goes_on n i x y r rows total h e s so_far = sym (one_more n x y r (drop (i + 1) rows) s) ∙ ap (built_from step n x) (sym (left rows i r h e)) ∙ so_far

  -- the row was refused
  pub stops : (n i : ℕ) (x : X) (r : Row) (rows : List Row) (f : TextFault) (total : Result X TextFault) → i < length rows → r ≡ get_or rows i r → step n x r ≡ Err f
      → built_from step n x (drop i rows) ≡ total → total ≡ Err f
  stops n i x r rows f total h e s so_far = sym so_far ∙ ap (built_from step n x) (left rows i r h e) ∙ one_less n x r (drop (i + 1) rows) f s

  -- no row is left
  pub is_done : (n i : ℕ) (x : X) (rows : List Row) (total : Result X TextFault) → length rows ≤ i → built_from step n x (drop i rows) ≡ total → total ≡ Ok x
  is_done n i x rows total h so_far = sym so_far ∙ ap (built_from step n x) (drop_all i rows h) ∙ no_more n x

-- a pipeline with a segment is whole, one without is refused
pub finished_yes : (n : ℕ) (p : Pipeline) → 0 < length p.tree → finished n p ≡ Ok p
finished_yes n p h = choose (length p.tree == 0) (ne_eqb (length p.tree) 0 (λ e. omega arith))
  where
    choose : (b : Bool) → b ≡ false → (if b then Err (fault.Row n (cause.Build build.NoSegment)) else Ok p) ≡ Ok p
    choose b e = rw e refl

pub finished_no : (n : ℕ) (p : Pipeline) → length p.tree ≡ 0 → finished n p ≡ Err (fault.Row n (cause.Build build.NoSegment))
finished_no n p h = choose (length p.tree == 0) (eq-eqb (length p.tree) 0 h)
  where
    choose : (b : Bool) → b ≡ true → (if b then Err (fault.Row n (cause.Build build.NoSegment)) else Ok p) ≡ Err (fault.Row n (cause.Build build.NoSegment))
    choose b e = rw e refl
