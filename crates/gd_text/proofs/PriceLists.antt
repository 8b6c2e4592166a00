-- One price more.
use Rattle.std.specs.Prelude.{◌⊎◌}
use Rattle.std.proofs.Common.{◌≡◌, ℕ, ◌<◌, List, [], ◌∷◌, ◌++◌, length, Some, sym, ap, ◌∙◌, arith, inl, inr, get_or}
use Rattle.std.specs.List.{slice_get}
use Rattle.std.proofs.lemmas.Option.{slice_get_within, slice_get-get_or, get_or_from_slice_get}
use Rattle.std.proofs.Math.ListN.{get_or-append}
use Rattle.std.proofs.Math.Seq.{get_or-append_seam}
use Rattle.std.proofs.lemmas.List.{length-append}
use Rattle.std.proofs.lemmas.Bool.{cases_lt}

-- what stands in a list with one item more stands in the list, or is that item, last
pub stands : {A : Type 0} (xs : List A) (x y : A) (e : ℕ) → slice_get (xs ++ x ∷ []) e ≡ Some y → (slice_get xs e ≡ Some y) ⊎ ((e ≡ length xs) × (x ≡ y))
stands xs x y e h = elim (cases_lt e (length xs)) [
  | inl below ↦ inl (slice_get-get_or xs e y below ∙ ap (λ t. Some t) (sym (get_or-append xs (x ∷ []) y e below) ∙ get_or_from_slice_get (xs ++ x ∷ []) e y y h))
  | inr above ↦
      let within : e < length (xs ++ x ∷ []) = slice_get_within (xs ++ x ∷ []) e y h in
      let last : e ≡ length xs = omega (arith, within, above, length-append xs (x ∷ [])) in
      inr (last, sym (get_or-append_seam xs x [] y) ∙ ap (λ k. get_or (xs ++ x ∷ []) k y) (sym last) ∙ get_or_from_slice_get (xs ++ x ∷ []) e y y h)
]
