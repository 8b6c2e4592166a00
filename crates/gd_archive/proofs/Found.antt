-- What is found of the rows so far, and of one more.
use Rattle.std.proofs.Common.{◌≡◌, ℕ, ◌+◌, ◌<◌, List, [], ◌∷◌, ◌++◌, length, get_or, Some, slice_get, ap, sym, subst, ◌∙◌, arith, inl, inr, refl, suc}
use Rattle.std.proofs.lemmas.List.{length-append}
use Rattle.std.proofs.lemmas.Option.{slice_get_within, slice_get-get_or, get_or_from_slice_get}
use Rattle.std.proofs.lemmas.Bool.{cases_order}
use Rattle.std.proofs.Math.ListN.{get_or-append}
use Rattle.std.proofs.Math.Seq.{get_or-append_seam}
use Rattle.sqlite.specs.Order.{Row}
use Rattle.gd_archive.specs.Findings.{IsFinding, before_of}
use Rattle.gd_archive.specs.declared.finding.Finding.{Finding}

-- as many rows are found so, from the first on
pub record FoundUpTo (rows : List Row) (some : ℕ) (findings : List Finding) : Type 0 where
  pub count : length findings ≡ some
  pub each : (k : ℕ) (row : Row) (found : Finding) → slice_get rows k ≡ Some row → slice_get findings k ≡ Some found → IsFinding (before_of rows k) row found

-- the last of a list with one more is that
at_seam : (findings : List Finding) (last found : Finding) (k : ℕ) → k ≡ length findings → slice_get (findings ++ last ∷ []) k ≡ Some found → found ≡ last
at_seam findings last found k at there =
    sym (get_or_from_slice_get (findings ++ last ∷ []) k found found there) ∙ ap (get_or (findings ++ last ∷ []) k) refl
    ∙ ap (λ n. get_or (findings ++ last ∷ []) n found) at ∙ get_or-append_seam findings last [] found

pub one_more : (rows : List Row) (findings : List Finding) (row : Row) (last : Finding) (i : ℕ) → FoundUpTo rows i findings → row ≡ get_or rows i row → IsFinding (before_of rows i) row last
    → FoundUpTo rows (i + 1) (findings ++ last ∷ [])
one_more rows findings row last i so_far is found = record {
  count = length-append findings (last ∷ []) ∙ ap (λ n. n + 1) so_far.count;
  each = λ k r f at there.
      let len : length (findings ++ last ∷ []) ≡ length findings + 1 = length-append findings (last ∷ []) in
      let within : k < length findings + 1 = subst (λ n. k < n) len (slice_get_within (findings ++ last ∷ []) k f there) in
      elim (cases_order k (length findings)) [
        | inl same ↦
            let r_is : row ≡ r = is ∙ ap (λ n. get_or rows n row) (sym (same ∙ so_far.count)) ∙ get_or_from_slice_get rows k r row at in
            let f_is : last ≡ f = sym (at_seam findings last f k same there) in
            let at_i : IsFinding (before_of rows i) r f = subst (λ x. IsFinding (before_of rows i) x f) r_is (subst (IsFinding (before_of rows i) row) f_is found) in
            subst (λ n. IsFinding (before_of rows n) r f) (sym (same ∙ so_far.count)) at_i
        | inr (inl low) ↦
            let old : get_or findings k f ≡ f = sym (get_or-append findings (last ∷ []) f k low) ∙ get_or_from_slice_get (findings ++ last ∷ []) k f f there in
            so_far.each k r f at (slice_get-get_or findings k f low ∙ ap Some old)
        | inr (inr high) ↦ absurd (omega (arith, within, high))
      ];
}

-- behind a row the next one stands
pub stands_before : (rows : List Row) (i : ℕ) (row : Row) → i < length rows → row ≡ get_or rows i row → Some row ≡ before_of rows (i + 1)
stands_before rows i row low is =
    let next : i + 1 ≡ suc i = omega arith in
    ap Some is ∙ sym (slice_get-get_or rows i row low) ∙ ap (before_of rows) (sym next)
