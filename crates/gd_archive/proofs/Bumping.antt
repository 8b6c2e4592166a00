-- The bumped lines of one line more, and the posting with which they are compared.
use Rattle.std.proofs.Common.{◌≡◌, ℕ, ◌+◌, ◌==◌, ◌&&◌, nat_lt, Bool, true, List, [], ◌∷◌, ◌++◌, map, Option, Some, None, sym, ap, ap₂, ◌∙◌, arith}
use Rattle.std.specs.Prelude.{filter, if◌then◌else◌}
use Rattle.std.specs.List.{range_with_len}
use Rattle.std.specs.Str.{bytes_eq}
use Rattle.std.proofs.lemmas.List.Elements.{filter-append}
use Rattle.std.proofs.lemmas.List.FromFn.{map-range_with_len_more}
use Rattle.sqlite.specs.Order.{Row, column}
use Rattle.gd_board.specs.declared.posting.Posting.{Posting}
use Rattle.gd_archive.specs.Bumps.{former_of}
use Rattle.gd_archive.specs.Soundness.{IsBook, IsCycle, count_of, posting_of, text_of}

-- one line more
pub taken_more : (f : ℕ → ℕ × ℕ) (n : ℕ) → filter (λ b. nat_lt 0 b.1) (map f (range_with_len 0 (n + 1))) ≡ filter (λ b. nat_lt 0 b.1) (map f (range_with_len 0 n)) ++ (if nat_lt 0 (f n).1 then f n ∷ [] else [])
taken_more f n =
    ap (filter (λ b. nat_lt 0 b.1)) (map-range_with_len_more f 0 n n (omega arith))
    ∙ filter-append (λ b. nat_lt 0 b.1) (map f (range_with_len 0 n)) (f n ∷ [])

both : (a b : Bool) → a ≡ true → b ≡ true → (a && b) ≡ true
both a b p q = ap₂ (λ (x y : Bool). x && y) p q

-- what the row of the cycle before keeps is compared
pub former_is : (row : Row) (book : List ℕ) (cycle : ℕ) (p : Posting) (o : Option Posting) → IsBook row book → IsCycle row cycle → bytes_eq book p.book ≡ true → (cycle + 1 == p.cycle) ≡ true → posting_of row ≡ o
    → o ≡ former_of (Some row) p
former_is row book cycle p o b c same next kept =
    let named : bytes_eq (text_of (column row 0)) p.book ≡ true = ap (λ t. bytes_eq t p.book) (ap text_of b) ∙ same in
    let before : (count_of (column row 1) + 1 == p.cycle) ≡ true = ap (λ n. n + 1 == p.cycle) (ap count_of c) ∙ next in
    sym (ap (λ (t : Bool). if t then posting_of row else None) (both _ _ named before) ∙ kept)
