-- The rows of a table, with one more.
use Rattle.std.proofs.Common.{◌≡◌, ◌≢◌, Bool, false, ◌||◌, List, [], ◌∷◌, refl}
use Rattle.std.specs.Ordering.{is_eq, match_ordering}
use Rattle.std.specs.declared.cmp.Ordering.{Ordering}
use Rattle.std.specs.declared.cmp.Ordering.TheVariants.{Less, Equal, Greater}
use Rattle.std.specs.List.Sorted.{IsPermutation}
use Rattle.std.proofs.lemmas.List.Sorted.{IsPermutation-refl, IsPermutation-trans, IsPermutation-cons, IsPermutation-sym, IsPermutation-middle}
use Rattle.sqlite.specs.Order.{Row, value_cmp}
use Rattle.sqlite.specs.Tree.{rowid, put_row}
use Rattle.sqlite.specs.Edit.{is_taken}

apart : (o : Ordering) (more : Bool) → is_eq o || more ≡ false → (o ≢ Equal) × (more ≡ false)
apart Less more h = (λ e. cc, h)
apart Equal more h = absurd cc
apart Greater more h = (λ e. cc, h)

module _ (new : Row) where
  put_permutes_at : (r : Row) (rows : List Row) → IsPermutation (new ∷ rows) (put_row new rows) → (o : Ordering) → o ≢ Equal
      → IsPermutation (new ∷ r ∷ rows) (match_ordering o (r ∷ put_row new rows) (new ∷ rows) (new ∷ r ∷ rows))
  put_permutes_at r rows h Less far = IsPermutation-trans _ (r ∷ new ∷ rows) _ (IsPermutation-sym _ _ (IsPermutation-middle (r ∷ []) new rows)) (IsPermutation-cons r _ _ h)
  put_permutes_at r rows h Equal far = absurd (far refl)
  put_permutes_at r rows h Greater far = IsPermutation-refl _

  -- where the rowid is not taken the row is added, and the others stay
  pub put_permutes : (rows : List Row) → is_taken rows new ≡ false → IsPermutation (new ∷ rows) (put_row new rows)
  put_permutes [] free = IsPermutation-refl _
  put_permutes (r ∷ rows) free =
      let split = apart (value_cmp (rowid r) (rowid new)) _ free in
      put_permutes_at r rows (put_permutes rows split.1) (value_cmp (rowid r) (rowid new)) split.0
