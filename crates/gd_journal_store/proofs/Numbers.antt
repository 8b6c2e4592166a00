-- Pieces with their numbers.
use Rattle.std.proofs.Common.{◌≡◌, ℕ, zero, suc, ◌+◌, ◌<◌, ◌≤◌, List, [], ◌∷◌, ◌++◌, All, length, get_or, map, take, drop, refl, sym, ap, ap₂, subst, ◌∙◌, arith, ext_get_or}
use Rattle.std.specs.List.Sorted.{IsPermutation}
use Rattle.std.proofs.lemmas.List.{length-map, get_or-map, length-drop, length-take-le, get_or-take, get_or-drop, take_all}
use Rattle.std.proofs.lemmas.List.Sorted.{IsPermutation-sym, IsPermutation-trans, IsPermutation-cons, IsPermutation-to_front, All-permutation, length_permutation}
use Rattle.sqlite.specs.Order.{Row}
use Rattle.gd_journal_store.specs.Pieces.{Piece, shown, numbered, numbered_at}
use Rattle.gd_journal_store.specs.Rows.{IsOneOf}
use Rattle.gd_journal_store.specs.Calls.{part}

abbrev none : Piece
none = ([], [])

pub numbered_more : (n : ℕ) (ps : List Piece) (p : Piece) → numbered n (ps ++ p ∷ []) ≡ numbered n ps ++ numbered_at (length ps + n) p ∷ []
numbered_more n [] p = let same : n ≡ 0 + n = omega arith in ap (λ m. numbered_at m p ∷ []) same
numbered_more n (q ∷ ps) p =
    let at : length ps + (n + 1) ≡ length (q ∷ ps) + n = omega arith in
    ap (λ l. numbered_at n q ∷ l) (numbered_more (n + 1) ps p ∙ ap (λ m. numbered (n + 1) ps ++ numbered_at m p ∷ []) at)

-- the rows that were there and one more are the pieces and one more
pub one_more : (ps : List Piece) (p : Piece) (n : ℕ) (rows new : List Row) → n ≡ length ps + 1 → IsPermutation rows (numbered 1 ps) → IsPermutation (numbered_at n p ∷ rows) new → IsPermutation new (numbered 1 (ps ++ p ∷ []))
one_more ps p n rows new is had more =
    let front : IsPermutation (numbered_at n p ∷ rows) (numbered_at n p ∷ numbered 1 ps) = IsPermutation-cons _ _ _ had in
    let back : IsPermutation (numbered_at n p ∷ numbered 1 ps) (numbered 1 ps ++ numbered_at n p ∷ []) = IsPermutation-sym _ _ (IsPermutation-to_front (numbered 1 ps) (numbered_at n p)) in
    let all : IsPermutation new (numbered 1 ps ++ numbered_at n p ∷ []) = IsPermutation-trans _ _ _ (IsPermutation-sym _ _ more) (IsPermutation-trans _ _ _ front back) in
    subst (IsPermutation new) (ap (λ m. numbered 1 ps ++ numbered_at m p ∷ []) is ∙ sym (numbered_more 1 ps p)) all

pub length_numbered : (n : ℕ) (ps : List Piece) → length (numbered n ps) ≡ length ps
length_numbered n [] = refl
length_numbered n (p ∷ ps) = ap suc (length_numbered (n + 1) ps)

pub at : (n : ℕ) (ps : List Piece) (i : ℕ) (d : Row) → i < length ps → get_or (numbered n ps) i d ≡ numbered_at (i + n) (get_or ps i none)
at n [] i d low = absurd (omega (arith, low))
at n (p ∷ ps) zero d low = let same : n ≡ 0 + n = omega arith in ap (λ m. numbered_at m p) same
at n (p ∷ ps) (suc i) d low =
    let next : i + (n + 1) ≡ suc i + n = omega arith in
    at (n + 1) ps i d (omega (arith, low)) ∙ ap (λ m. numbered_at m (get_or ps i none)) next

all_numbered : (ps : List Piece) → All (IsOneOf ps) (numbered 1 ps)
all_numbered ps i d low =
    let l : i < length ps = omega (arith, low, length_numbered 1 ps) in record { place = i; low = l; is = at 1 ps i d l }

-- each row of the table is one of the pieces
pub all_shown : (ps : List Piece) (rows : List Row) → IsPermutation (map shown rows) (numbered 1 ps) → All (λ r. IsOneOf ps (shown r)) rows
all_shown ps rows pieces i d low =
    let all = All-permutation (IsOneOf ps) (numbered 1 ps) (map shown rows) (IsPermutation-sym _ _ pieces) (all_numbered ps) in
    subst (IsOneOf ps) (get_or-map shown rows i d (shown d) low) (all i (shown d) (omega (arith, low, length-map rows shown)))

pub number_same : (a b : ℕ) (p q : Piece) → numbered_at a p ≡ numbered_at b q → a ≡ b
number_same a b p q e = cc

rows_same : (a b : ℕ) (p q : Piece) → numbered_at a p ≡ numbered_at b q → p.0 ≡ q.0
rows_same a b p q e = cc

told_same : (a b : ℕ) (p q : Piece) → numbered_at a p ≡ numbered_at b q → p.1 ≡ q.1
told_same a b p q e = cc

piece_same : (a b : ℕ) (p q : Piece) → numbered_at a p ≡ numbered_at b q → p ≡ q
piece_same a b p q e = ap (λ (r : List ℕ). (r, p.1)) (rows_same a b p q e) ∙ ap (λ (t : List ℕ). (q.0, t)) (told_same a b p q e)

-- what is numbered so, and is each one of the pieces, is the part of them from there on
module _ (ps qs : List Piece) (after : ℕ) (all : All (IsOneOf ps) (numbered (after + 1) qs)) where
  here : (i : ℕ) → i < length qs → (after + i < length ps) × (get_or qs i none ≡ get_or ps (after + i) none)
  here i low =
      let one = all i [] (omega (arith, low, length_numbered (after + 1) qs)) in
      let both : numbered_at (i + (after + 1)) (get_or qs i none) ≡ numbered_at (one.place + 1) (get_or ps one.place none) = sym (at (after + 1) qs i [] low) ∙ one.is in
      let same : one.place ≡ after + i = omega (arith, number_same (i + (after + 1)) (one.place + 1) _ _ both) in
      (omega (arith, same, one.low), piece_same _ _ _ _ both ∙ ap (λ m. get_or ps m none) same)

  within : (n : ℕ) → n ≡ length qs → length qs ≤ length (drop after ps)
  within zero e = omega (arith, e)
  within (suc n) e = omega (arith, (here n (omega (arith, e))).0, length-drop after ps)

  pub is_part : qs ≡ part after (length qs) ps
  is_part =
      let fits = within (length qs) refl in
      ext_get_or none qs (part after (length qs) ps) (sym (length-take-le (length qs) (drop after ps) fits)) (λ i low.
      (here i low).1 ∙ sym (get_or-take (length qs) (drop after ps) i none low ∙ get_or-drop after ps i none))

-- pieces under the same numbers are the same
pub numbered_same : (n : ℕ) (ps qs : List Piece) → numbered n ps ≡ numbered n qs → ps ≡ qs
numbered_same n [] [] e = refl
numbered_same n [] (q ∷ qs) e = absurd (omega (arith, ap length e))
numbered_same n (p ∷ ps) [] e = absurd (omega (arith, ap length e))
numbered_same n (p ∷ ps) (q ∷ qs) e =
    ap₂ ◌∷◌ (piece_same n n p q (ap (λ l. get_or l 0 []) e)) (numbered_same (n + 1) ps qs (ap (drop 1) e))

-- two lists of pieces that one tree has are one
pub same_pieces : (rows : List Row) (ps qs : List Piece) → IsPermutation rows (numbered 1 ps) → IsPermutation rows (numbered 1 qs) → qs ≡ ps
same_pieces rows ps qs p q =
    let both = IsPermutation-trans (numbered 1 ps) rows (numbered 1 qs) (IsPermutation-sym _ _ p) q in
    let all = All-permutation (IsOneOf ps) (numbered 1 ps) (numbered 1 qs) both (all_numbered ps) in
    let len : length qs ≡ length ps = omega (arith, length_numbered 1 ps, length_numbered 1 qs, length_permutation (numbered 1 ps) (numbered 1 qs) both) in
    is_part ps qs 0 all ∙ whole len
  where
    whole : length qs ≡ length ps → part 0 (length qs) ps ≡ ps
    whole len = ap (λ n. take n ps) len ∙ take_all (length ps) ps (omega arith)
