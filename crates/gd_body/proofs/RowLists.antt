-- Rows that are written one after the other: what stands, and the rows that are left behind it, stay the same.
use Rattle.std.proofs.Common.{◌≡◌, ℕ, ◌+◌, ◌≤◌, min, inl, inr, List, [], ◌∷◌, ◌++◌, length, drop, map, Some, refl, sym, ap, ◌∙◌, arith}
use Rattle.std.specs.List.{slice_get, range_with_len, flat_map}
use Rattle.std.proofs.lemmas.List.{drop_more, drop_all, append_assoc, append-nil, map-id, flat_map_more}
use Rattle.std.proofs.lemmas.List.FromFn.{map-range_with_len_more}
use Rattle.std.proofs.lemmas.Option.{slice_get_within, get_or_from_slice_get}
use Rattle.std.proofs.lemmas.Bool.{cases_lt}
use Rattle.gd_cost.specs.Parts.{class_words}
use Rattle.gd_cost.specs.declared.lex.Lex.{Lex}
use Rattle.gd_cost.specs.declared.pair.Pair.{Pair}
use Rattle.gd_system.specs.Pipeline.{Pipeline, elements_of, names_of}
use Rattle.gd_system.proofs.Slots.{length-elements, length-names}
use Rattle.gd_body.specs.Rows.{Fields, line, lines_of, element_rows, price_rows}

-- the bytes of rows in two parts
pub lines-append : (a b : List Fields) → lines_of (a ++ b) ≡ lines_of a ++ lines_of b
lines-append [] b = refl
lines-append (r ∷ a) b = ap (λ l. line r ++ l) (lines-append a b) ∙ sym (append_assoc (line r) (lines_of a) (lines_of b))

-- the bytes of a row
pub lines_of_one : (r : Fields) → lines_of (r ∷ []) ≡ line r
lines_of_one r = append-nil (line r)

-- rows are written behind others
pub written_next : (old text new : List ℕ) (a b : List Fields) → text ≡ old ++ lines_of a → new ≡ text ++ lines_of b → new ≡ old ++ lines_of (a ++ b)
written_next old text new a b so e =
    e ∙ ap (λ l. l ++ lines_of b) so ∙ append_assoc old (lines_of a) (lines_of b) ∙ ap (λ l. old ++ l) (sym (lines-append a b))

-- the first rows of those that are left are written
pub written_more : (text new added rest rest' total : List ℕ) → new ≡ text ++ added → rest ≡ added ++ rest' → text ++ rest ≡ total → new ++ rest' ≡ total
written_more text new added rest rest' total n r so =
    ap (λ l. l ++ rest') n ∙ append_assoc text added rest' ∙ sym (ap (λ l. text ++ l) r) ∙ so

-- no row is left
pub written_all : (text rest total : List ℕ) → rest ≡ [] → text ++ rest ≡ total → text ≡ total
written_all text rest total r so = sym (append-nil text) ∙ sym (ap (λ l. text ++ l) r) ∙ so

range_more : (n : ℕ) → range_with_len 0 (n + 1) ≡ range_with_len 0 n ++ n ∷ []
range_more n = sym (map-id (range_with_len 0 (n + 1))) ∙ map-range_with_len_more (λ k. k) 0 n n (omega arith) ∙ ap (λ l. l ++ n ∷ []) (map-id (range_with_len 0 n))

-- one row more of those by number
pub row_more : (f : ℕ → Fields) (old text new : List ℕ) (n : ℕ) → text ≡ old ++ lines_of (map f (range_with_len 0 n)) → new ≡ text ++ line (f n)
    → new ≡ old ++ lines_of (map f (range_with_len 0 (n + 1)))
row_more f old text new n so e =
    written_next old text new (map f (range_with_len 0 n)) (f n ∷ []) so (e ∙ ap (λ l. text ++ l) (sym (lines_of_one (f n))))
    ∙ ap (λ l. old ++ lines_of l) (sym (map-range_with_len_more f 0 n n (omega arith)))

-- the rows of one number more
pub rows_more : (f : ℕ → List Fields) (old text new : List ℕ) (n : ℕ) → text ≡ old ++ lines_of (flat_map f (range_with_len 0 n)) → new ≡ text ++ lines_of (f n)
    → new ≡ old ++ lines_of (flat_map f (range_with_len 0 (n + 1)))
rows_more f old text new n so e =
    written_next old text new (flat_map f (range_with_len 0 n)) (f n) so e
    ∙ ap (λ l. old ++ lines_of l) (flat_map_more f [] (range_with_len 0 n) n ∙ ap (flat_map f) (sym (range_more n)))

-- the item at i is the first of those that are left
left_at : {X : Type 0} (xs : List X) (i : ℕ) (x : X) → slice_get xs i ≡ Some x → drop i xs ≡ x ∷ drop (i + 1) xs
left_at xs i x h = drop_more xs i x (slice_get_within xs i x h) ∙ ap (λ y. y ∷ drop (i + 1) xs) (get_or_from_slice_get xs i x x h)

-- the rows of one price more
pub prices_more : (names : List (List ℕ)) (prices : List (Pair (Lex 8) (Lex 8))) (i : ℕ) (name : List ℕ) (price : Pair (Lex 8) (Lex 8))
    → slice_get names i ≡ Some name → slice_get prices i ≡ Some price
    → lines_of (price_rows (drop i names) (drop i prices)) ≡ lines_of (element_rows name (class_words price)) ++ lines_of (price_rows (drop (i + 1) names) (drop (i + 1) prices))
prices_more names prices i name price n e =
    ap (λ l. lines_of (price_rows l (drop i prices))) (left_at names i name n)
    ∙ ap (λ l. lines_of (price_rows (name ∷ drop (i + 1) names) l)) (left_at prices i price e)
    ∙ lines-append (element_rows name (class_words price)) (price_rows (drop (i + 1) names) (drop (i + 1) prices))

no_prices : (names : List (List ℕ)) → price_rows names [] ≡ []
no_prices [] = refl
no_prices (name ∷ names) = refl

-- no price is left without a name, and no name without a price
pub prices_all : (names : List (List ℕ)) (prices : List (Pair (Lex 8) (Lex 8))) (i : ℕ) → length prices ≤ i → lines_of (price_rows (drop i names) (drop i prices)) ≡ []
prices_all names prices i h = ap (λ l. lines_of (price_rows (drop i names) l)) (drop_all i prices h) ∙ ap lines_of (no_prices (drop i names))

pub names_all : (names : List (List ℕ)) (prices : List (Pair (Lex 8) (Lex 8))) (i : ℕ) → length names ≤ i → lines_of (price_rows (drop i names) (drop i prices)) ≡ []
names_all names prices i h = ap (λ l. lines_of (price_rows l (drop i prices))) (drop_all i names h)

-- behind the last name or the last price no row is left
pub prices_done : (p : Pipeline) (prices : List (Pair (Lex 8) (Lex 8))) (n i : ℕ) → length p.segments ≡ length p.tree → n ≡ min (length (elements_of p)) (length prices) → n ≤ i
    → lines_of (price_rows (drop i (names_of p)) (drop i prices)) ≡ []
prices_done p prices n i named is past = elim (cases_lt i (length prices)) [
  | inl below ↦ names_all (names_of p) prices i (omega (arith, named, is, past, below, length-names p, length-elements p))
  | inr above ↦ prices_all (names_of p) prices i above
]
