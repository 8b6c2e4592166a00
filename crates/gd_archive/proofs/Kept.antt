-- What a row keeps, where its book, cycle, round and body are known.
use Rattle.std.proofs.Common.{◌≡◌, ℕ, Bool, false, true, ◌&&◌, List, Option, Some, None, refl, sym, ap, subst, ◌∙◌, if◌then◌else◌}
use Rattle.std.proofs.lemmas.Option.{same_Some}
use Rattle.sqlite.specs.Cast.{cast}
use Rattle.sqlite.specs.Kind.TheVariants.{Integer}
use Rattle.sqlite.specs.Order.{Row, column}
use Rattle.sqlite.specs.declared.types.Value.{Value}
use Rattle.sqlite.specs.declared.types.Value.TheVariants.{Null, Int, Real, Text, Blob}
use Rattle.gd_board.specs.declared.posting.Posting.{Posting}
use Rattle.gd_body.specs.Body.{IsBody, posting_in}
use Rattle.gd_body.specs.Rows.{body_text}
use Rattle.gd_body.specs.Spread.{without_spread}
use Rattle.gd_archive_store.specs.Migration.{carried}
use Rattle.gd_archive_store.proofs.Inserting.{cast_int}
use Rattle.gd_archive.specs.Calls.{rewritten, rewritten_to, IsCarried}
use Rattle.gd_archive.specs.declared.sound.Verdict.TheVariants as verdict
use Rattle.gd_archive.specs.Soundness.{IsBook, IsCycle, IsSound, IsVerdict, posting_of, posting_of_body, posting_at, where_of, is_of, is_number, text_of, count_of}
use Rattle.gd_archive.specs.declared.row.Label.{Label}

-- a posting of another book, cycle or round is none of this row
pub none_of : (book : List ℕ) (cycle : ℕ) (round body : Value) (p : Posting) → posting_of_body body ≡ Some p → is_of book cycle round p ≡ false → posting_at book cycle round body ≡ None
none_of book cycle round body p said other =
    ap (where_of book cycle round) said ∙ ap (λ (b : Bool). if b then Some p else None) other

-- what is kept at the values of a row is what the row keeps
pub at_row : (row : Row) (book : List ℕ) (cycle : ℕ) (round body : Value) (o : Option Posting) → IsBook row book → IsCycle row cycle → round ≡ column row 2 → body ≡ column row 3
    → posting_at book cycle round body ≡ o → posting_of row ≡ o
at_row row book cycle round body o b c r v found =
    ap (λ (t : List ℕ). posting_at t (count_of (column row 1)) (column row 2) (column row 3)) (ap text_of b)
    ∙ ap (λ (n : ℕ). posting_at book n (column row 2) (column row 3)) (ap count_of c)
    ∙ ap (λ (x : Value). posting_at book cycle x (column row 3)) (sym r)
    ∙ ap (λ (x : Value). posting_at book cycle round x) (sym v)
    ∙ found

-- a row whose posting passes is sound
pub sound_row : (row : Row) (label : Label) (p : Posting) → IsVerdict row (verdict.Sound label p) → IsSound row
sound_row row label p found = record {
  rule = label.rule;
  posting = p;
  ruled = found.0.rule;
  kept = found.1;
  passes = found.2;
}

-- what was kept under a test passed it
under_test : (b : Bool) (q p : Posting) → (if b then Some q else None) ≡ Some p → (b ≡ true) × (q ≡ p)
under_test true q p h = (refl, same_Some q p h)
under_test false q p h = cc

where_is : (book : List ℕ) (cycle : ℕ) (round : Value) (o : Option Posting) (p : Posting) → where_of book cycle round o ≡ Some p → is_of book cycle round p ≡ true
where_is book cycle round None p h = cc
where_is book cycle round (Some q) p h =
    let found = under_test (is_of book cycle round q) q p h in
    subst (λ (x : Posting). is_of book cycle round x ≡ true) found.1 found.0

-- the round that is kept is an integer, which a column of integers leaves as it is
same_number : (n : ℕ) (v : Value) → is_number n v ≡ true → cast Integer v ≡ v
same_number n Null h = cc
same_number n (Int z) h = cast_int z
same_number n (Real x) h = cc
same_number n (Text t) h = cc
same_number n (Blob t) h = cc

both_are : (a b : Bool) → (a && b) ≡ true → b ≡ true
both_are true b h = h
both_are false b h = cc

round_is : (book : List ℕ) (cycle : ℕ) (round : Value) (p : Posting) → is_of book cycle round p ≡ true → cast Integer round ≡ round
round_is book cycle round p h = same_number p.round round (both_are _ (is_number p.round round) h)

-- a posting that was written without words of the spread is kept in place of the one that was read
pub is_carried : (row : Row) (posting : Posting) (body : List ℕ) → posting_of row ≡ Some posting → IsBody (without_spread posting) body → IsCarried row
is_carried row posting body kept b p h =
    let book = text_of (column row 0) in
    let cycle = count_of (column row 1) in
    let round = column row 2 in
    let less = without_spread posting in
    let of_row : is_of book cycle round posting ≡ true = where_is book cycle round (posting_of_body (column row 3)) posting kept in
    let as_it_was : cast Integer round ≡ round = round_is book cycle round posting of_row in
    let body_is : rewritten row ≡ Blob (body_text less) = ap (rewritten_to row) kept in
    let said : posting_in (body_text less) ≡ Some less = subst (λ (t : List ℕ). posting_in t ≡ Some less) b.written b.read_back in
    let done : posting_of (carried rewritten row) ≡ Some less =
    ap (λ (x : Value). posting_at book cycle x (rewritten row)) as_it_was
    ∙ ap (posting_at book cycle round) body_is
    ∙ ap (where_of book cycle round) said
    ∙ ap (λ (t : Bool). if t then Some less else None) of_row in
    done ∙ ap (λ (q : Posting). Some (without_spread q)) (same_Some posting p (sym kept ∙ h))
