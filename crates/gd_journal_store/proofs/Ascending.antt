-- Rows that ORDER BY puts in the order of their numbers.
use Rattle.std.proofs.Common.{◌≡◌, ℕ, zero, suc, ◌+◌, ◌<◌, ◌≤◌, pos, inl, inr, Bool, true, false, cond, ltb, ◌&&◌, List, [], ◌∷◌, map, filter, take, drop, Some, refl, ap, ap₂, ◌∙◌, arith, lt-ltb, le-ltb}
use Rattle.std.specs.List.{AllByRecursion, list_all}
use Rattle.std.specs.List.Sorted.{IsPermutation, IsSorted}
use Rattle.std.specs.Ordering.{is_gt, is_le, ordering_then}
use Rattle.std.specs.declared.cmp.Ordering.{Ordering}
use Rattle.std.specs.declared.cmp.Ordering.TheVariants.{Less, Equal, Greater}
use Rattle.std.proofs.lemmas.Bool.{cases_lt}
use Rattle.sqlite.specs.declared.types.Value.TheVariants.{Int}
use Rattle.sqlite.specs.Order.{Row, column, value_cmp}
use Rattle.sqlite.specs.Term.{Term, holds}
use Rattle.sqlite.specs.Query.{Output, output_cmp}
use Rattle.sqlite_value.proofs.OrderLemmas.{value_cmp-Int}
use Rattle.sqlite_trees.specs.Tree.{IsAscending}
use Rattle.sqlite_sql.specs.Ops.{is_true, from_truth, binary}
use Rattle.sqlite_sql.proofs.QueryLemmas.{output_cmp_total}
use Rattle.sqlite_keyed.proofs.SortLemmas.{sorted_unique}
use Rattle.gd_journal_store.specs.Pieces.{Piece, numbered, numbered_at}
use Rattle.gd_journal_store.specs.Calls.{part}
use Rattle.gd_journal_store.proofs.Texts.{ordered_query, part_query}

less : (a b : ℕ) → a < b → value_cmp (Int (pos a)) (Int (pos b)) ≡ Less
less a b low = value_cmp-Int (pos a) (pos b) ∙ ap (λ t. cond t Less (cond (ltb b a) Greater Equal)) (lt-ltb a b low)

same : (a b : ℕ) → a ≡ b → value_cmp (Int (pos a)) (Int (pos b)) ≡ Equal
same a b is =
    value_cmp-Int (pos a) (pos b) ∙ ap₂ (λ s t. cond s Less (cond t Greater Equal)) (le-ltb a b (omega (arith, is))) (le-ltb b a (omega (arith, is)))

more : (a b : ℕ) → b < a → value_cmp (Int (pos a)) (Int (pos b)) ≡ Greater
more a b low =
    value_cmp-Int (pos a) (pos b) ∙ ap₂ (λ s t. cond s Less (cond t Greater Equal)) (le-ltb a b (omega (arith, low))) (lt-ltb b a low)

-- a row with its number, by which it is put in order
abbrev pub keyed : Row → Output
keyed r = (column r 0 ∷ [], r)

unkeyed : (rows : List Row) → map (λ (o : Output). o.1) (map keyed rows) ≡ rows
unkeyed [] = refl
unkeyed (r ∷ rows) = ap (λ l. r ∷ l) (unkeyed rows)

module _ (terms : List Term) where
  below_all : (k n : ℕ) (p : Piece) (ps : List Piece) → k < n → AllByRecursion (λ o. output_cmp (ordered_query terms) (keyed (numbered_at k p)) o ≡ Less) (map keyed (numbered n ps))
  below_all k n p [] low = tt
  below_all k n p (q ∷ ps) low = (ap (λ o. ordering_then o Equal) (less k n low), below_all k (n + 1) p ps (omega (arith, low)))

  rises : (n : ℕ) (ps : List Piece) → IsAscending (λ a b. output_cmp (ordered_query terms) a b ≡ Less) (map keyed (numbered n ps))
  rises n [] = tt
  rises n (p ∷ ps) = (below_all n (n + 1) p ps (omega arith), rises (n + 1) ps)

  -- pieces in the order of their numbers are the pieces
  pub in_order : (n : ℕ) (ps : List Piece) (ordered : List Output) → IsPermutation (map keyed (numbered n ps)) ordered → IsSorted (output_cmp (ordered_query terms)) ordered
      → map (λ (o : Output). o.1) ordered ≡ numbered n ps
  in_order n ps ordered found sorted =
      let q = ordered_query terms in
      ap (map (λ (o : Output). o.1)) (sorted_unique (output_cmp q) (output_cmp_total q) (map keyed (numbered n ps)) ordered (rises n ps) found sorted) ∙ unkeyed (numbered n ps)

-- the row's number is behind one number and up to another, as WHERE tests it
abbrev pub is_between : Row → Row → Bool
is_between params r = list_all (holds (params ∷ r ∷ [])) part_query.filter

abbrev passes : Ordering → Ordering → Bool
passes low high = is_true (from_truth (Some (is_gt low))) && (is_true (from_truth (Some (is_le high))) && true)

module _ (after last : ℕ) where
  abbrev test : Row → Bool
  test = is_between (Int (pos after) ∷ Int (pos last) ∷ [])

  before : (n : ℕ) (p : Piece) → n ≤ after → after ≤ last → test (numbered_at n p) ≡ false
  unfolding binary
  before n p low high = elim (cases_lt n after) [
    | inl l ↦ ap (λ o. passes o (value_cmp (Int (pos n)) (Int (pos last)))) (less n after l)
    | inr l ↦ ap (λ o. passes o (value_cmp (Int (pos n)) (Int (pos last)))) (same n after (omega (arith, l, low)))
  ]

  behind : (n : ℕ) (p : Piece) → after < n → last < n → test (numbered_at n p) ≡ false
  unfolding binary
  behind n p low high = ap₂ passes (more n after low) (more n last high)

  within : (n : ℕ) (p : Piece) → after < n → n ≤ last → test (numbered_at n p) ≡ true
  unfolding binary
  within n p low high = elim (cases_lt n last) [
    | inl l ↦ ap₂ passes (more n after low) (less n last l)
    | inr l ↦ ap₂ passes (more n after low) (same n last (omega (arith, l, high)))
  ]

  none_behind : (n : ℕ) (ps : List Piece) → after < n → last < n → filter test (numbered n ps) ≡ []
  none_behind n [] low high = refl
  none_behind n (p ∷ ps) low high =
      let rest = filter test (numbered (n + 1) ps) in
      ap (λ t. cond t (numbered_at n p ∷ rest) rest) (behind n p low high) ∙ none_behind (n + 1) ps (omega (arith, low)) (omega (arith, high))

  skipped : (gap n : ℕ) (ps : List Piece) → n + gap ≡ after + 1 → after ≤ last → filter test (numbered n ps) ≡ filter test (numbered (after + 1) (drop gap ps))
  skipped zero n ps is high = let first : n ≡ after + 1 = omega (arith, is) in ap (λ m. filter test (numbered m ps)) first
  skipped (suc gap) n [] is high = refl
  skipped (suc gap) n (p ∷ ps) is high =
      let rest = filter test (numbered (n + 1) ps) in
      ap (λ t. cond t (numbered_at n p ∷ rest) rest) (before n p (omega (arith, is)) high) ∙ skipped gap (n + 1) ps (omega (arith, is)) high

  taken : (left n : ℕ) (ps : List Piece) → after < n → n + left ≡ last + 1 → filter test (numbered n ps) ≡ numbered n (take left ps)
  taken zero n ps low is = none_behind n ps low (omega (arith, is))
  taken (suc left) n [] low is = refl
  taken (suc left) n (p ∷ ps) low is =
      let rest = filter test (numbered (n + 1) ps) in
      ap (λ t. cond t (numbered_at n p ∷ rest) rest) (within n p low (omega (arith, is))) ∙ ap (λ l. numbered_at n p ∷ l) (taken left (n + 1) ps (omega (arith, low)) (omega (arith, is)))

  -- the pieces that pass the test
  pub part_passes : (count : ℕ) (ps : List Piece) → last ≡ after + count → filter test (numbered 1 ps) ≡ numbered (after + 1) (part after count ps)
  part_passes count ps is =
      skipped after 1 ps (omega arith) (omega (arith, is)) ∙ taken count (after + 1) (drop after ps) (omega arith) (omega (arith, is))
