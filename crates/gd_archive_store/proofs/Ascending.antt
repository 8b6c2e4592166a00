-- The SELECT of all rows shows them by book and cycle.
use Rattle.std.proofs.Common.{◌≡◌, ℕ, zero, suc, ◌+◌, ◌-◌, ◌<◌, List, [], ◌∷◌, All, map, length, get_or, false, arith, refl, sym, ap, subst, ◌∙◌}
use Rattle.std.specs.Ordering.{is_lt, ordering_then}
use Rattle.std.specs.declared.cmp.Ordering.{Ordering}
use Rattle.std.specs.declared.cmp.Ordering.TheVariants.{Less, Equal, Greater}
use Rattle.std.specs.Cmp.{IsTotalOrder, then_total, on_total}
use Rattle.std.specs.List.Sorted.{IsSorted}
use Rattle.std.proofs.lemmas.List.Sorted.{ranks_by}
use Rattle.std.proofs.lemmas.List.{get_or-map}
use Rattle.sqlite_value.proofs.OrderLemmas.{value_cmp_total}
use Rattle.sqlite.specs.Order.{Row, column, value_cmp}
use Rattle.sqlite.specs.Query.{Output, output, output_cmp}
use Rattle.gd_archive_store.specs.Contents.{posting_cmp, IsAscending}
use Rattle.gd_archive_store.proofs.Texts.{all_query}

-- the keys of an output are the book and the cycle that it shows
abbrev pub IsKeyed : Output → Type 0
IsKeyed o = (column o.0 0 ≡ column o.1 0) × (column o.0 1 ≡ column o.1 1)

pub all_keyed : (rows : List Row) → All IsKeyed (map (output all_query) (map (λ r. [] ∷ r ∷ []) rows))
all_keyed [] i d low = absurd (omega (arith, low))
all_keyed (r ∷ rows) zero d low = (refl, refl)
all_keyed (r ∷ rows) (suc i) d low = all_keyed rows i d (omega (arith, low))

then_equal : (o : Ordering) → ordering_then o Equal ≡ o
then_equal Less = refl
then_equal Equal = refl
then_equal Greater = refl

same_order : (o p : Output) → IsKeyed o → IsKeyed p → output_cmp all_query o p ≡ posting_cmp o.1 p.1
same_order o p f g = rw (f.0, f.1, g.0, g.1, then_equal (value_cmp (column o.1 1) (column p.1 1))) refl

total : IsTotalOrder posting_cmp
total = then_total (on_total (λ r. column r 0) value_cmp_total) (on_total (λ r. column r 1) value_cmp_total)

shown_len : (all : List Output) → length (map (λ o. o.1) all) ≡ length all
shown_len [] = refl
shown_len (o ∷ all) = ap suc (shown_len all)

-- each row is not before the one before it
next_to : (all : List Output) → All IsKeyed all → IsSorted (output_cmp all_query) all → (i : ℕ) → i + 1 < length (map (λ o. o.1) all)
    → is_lt (posting_cmp (get_or (map (λ o. o.1) all) (i + 1) []) (get_or (map (λ o. o.1) all) i [])) ≡ false
next_to all keyed sorted i low =
    let d : Output = ([], []) in
    let short : i + 1 < length all = subst (λ n. i + 1 < n) (shown_len all) low in
    let a = get_or all (i + 1) d in
    let b = get_or all i d in
    let is_a = get_or-map (λ (o : Output). o.1) all (i + 1) d [] short in
    let is_b = get_or-map (λ (o : Output). o.1) all i d [] (omega (arith, short)) in
    let order = same_order a b (keyed (i + 1) d short) (keyed i d (omega (arith, short))) in
    ap is_lt (rw (is_a, is_b) (sym order)) ∙ sorted i d (omega arith) short

far_from : (rows : List Row) → ((i : ℕ) → i + 1 < length rows → is_lt (posting_cmp (get_or rows (i + 1) []) (get_or rows i [])) ≡ false)
    → (i k : ℕ) → i + suc k < length rows → is_lt (posting_cmp (get_or rows (i + suc k) []) (get_or rows i [])) ≡ false
far_from rows next i zero low = next i low
far_from rows next i (suc k) low =
    let order = ranks_by total (λ (r : Row). r) in
    let before = far_from rows next i k (omega (arith, low)) in
    let last : is_lt (posting_cmp (get_or rows (i + suc (suc k)) []) (get_or rows (i + suc k) [])) ≡ false =
    subst (λ n. is_lt (posting_cmp (get_or rows n []) (get_or rows (i + suc k) [])) ≡ false) (omega arith) (next (i + suc k) (omega (arith, low))) in
    order.chain (get_or rows (i + suc (suc k)) []) (get_or rows (i + suc k) []) (get_or rows i []) last before

-- no row is before an earlier one
pub ascends : (all : List Output) → All IsKeyed all → IsSorted (output_cmp all_query) all → IsAscending (map (λ o. o.1) all)
ascends all keyed sorted i j less low =
    let rows = map (λ (o : Output). o.1) all in
    let far = far_from rows (next_to all keyed sorted) i (j - suc i) (omega (arith, less, low)) in
    subst (λ n. is_lt (posting_cmp (get_or rows n []) (get_or rows i [])) ≡ false) (omega (arith, less)) far
