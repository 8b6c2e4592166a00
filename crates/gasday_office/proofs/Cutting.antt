-- The rows of a block, one after the other.
use Rattle.std.proofs.Common.{◌≡◌, ℕ, ◌+◌, ◌-◌, ◌<◌, ◌≤◌, Bool, true, false, List, [], ◌∷◌, ◌++◌, length, take, drop, get_or, ◌∙◌, ap, sym, arith}
use Rattle.std.specs.Prelude.{◌&&◌, ◌||◌, if◌then◌else◌}
use Rattle.std.proofs.lemmas.List.{take_more, drop_all, get_or-drop, length-drop, length-take-le}
use Rattle.gd_text_part.specs.declared.row.Row.{Row}
use Rattle.gd_text.proofs.Building.{left}
use Rattle.gasday_office.specs.Blocks.{Block, is_segment, is_head, blocks_after}

-- The rows from `start` on and before `at`.
abbrev pub rows_between : List Row → ℕ → ℕ → List Row
rows_between rows start at = take (at - start) (drop start rows)

abbrev pub block_at : List Row → ℕ → ℕ → Block
block_at rows start at = record { before = start; rows = rows_between rows start at }

-- The blocks that are left at row `at`, where the first of them begins at `start`, both counted from 0.
abbrev pub blocks_left : List Row → ℕ → Bool → ℕ → List Block
blocks_left rows start headed at = blocks_after start headed (rows_between rows start at) (drop at rows)

long : (rows : List Row) (start at : ℕ) → at ≤ length rows → length (rows_between rows start at) ≡ at - start
long rows start at h =
    let w : at - start ≤ length (drop start rows) = omega (arith, length-drop start rows, h) in
    length-take-le (at - start) (drop start rows) w

grows : (rows : List Row) (start at : ℕ) (r : Row) → start ≤ at → at < length rows → r ≡ get_or rows at r
    → rows_between rows start (at + 1) ≡ rows_between rows start at ++ r ∷ []
grows rows start at r b h e =
    let k : at + 1 - start ≡ at - start + 1 = omega (arith, b) in
    let s : start + (at - start) ≡ at = omega (arith, b) in
    let w : at - start < length (drop start rows) = omega (arith, length-drop start rows, h, b) in
    ap (λ n. take n (drop start rows)) k ∙ take_more (drop start rows) (at - start) r w
    ∙ ap (λ (x : Row). rows_between rows start at ++ x ∷ []) (get_or-drop start rows (at - start) r ∙ ap (λ n. get_or rows n r) s ∙ sym e)

pick : {X : Type 0} (b c : Bool) (x y : X) → b ≡ c → (if b then x else y) ≡ (if c then x else y)
pick b c x y e = ap (λ d. if d then x else y) e

module _ (rows : List Row) (start at : ℕ) (headed : Bool) (r : Row) (b : start ≤ at) (h : at < length rows) (e : r ≡ get_or rows at r) where
  -- a row goes into the block
  pub goes_in : (headed && is_segment r) ≡ false → blocks_left rows start headed at ≡ blocks_left rows start (headed || is_head r) (at + 1)
  goes_in other =
      ap (λ (l : List Row). blocks_after start headed (rows_between rows start at) l) (left rows at r h e)
      ∙ pick (headed && is_segment r) false _ (blocks_after start (headed || is_head r) (rows_between rows start at ++ r ∷ []) (drop (at + 1) rows)) other
      ∙ ap (λ (g : List Row). blocks_after start (headed || is_head r) g (drop (at + 1) rows)) (sym (grows rows start at r b h e))

  -- a row begins the next block
  pub begins : (headed && is_segment r) ≡ true → blocks_left rows start headed at ≡ block_at rows start at ∷ blocks_left rows at false (at + 1)
  begins next =
      let within : at ≤ length rows = omega (arith, h) in
      let all : start + length (rows_between rows start at) ≡ at = omega (arith, long rows start at within, b) in
      let zero : at - at ≡ 0 = omega arith in
      let none : rows_between rows at at ≡ [] = ap (λ n. take n (drop at rows)) zero in
      let itself : at ≤ at = omega arith in
      ap (λ (l : List Row). blocks_after start headed (rows_between rows start at) l) (left rows at r h e)
      ∙ pick (headed && is_segment r) true (block_at rows start at ∷ blocks_after (start + length (rows_between rows start at)) false (r ∷ []) (drop (at + 1) rows)) _ next
      ∙ ap (λ n. block_at rows start at ∷ blocks_after n false (r ∷ []) (drop (at + 1) rows)) all
      ∙ ap (λ (g : List Row). block_at rows start at ∷ blocks_after at false g (drop (at + 1) rows)) (sym (grows rows at at r itself h e ∙ ap (λ (g : List Row). g ++ r ∷ []) none))

-- behind the last row the block that was begun is left
pub last_left : (rows : List Row) (start at : ℕ) (headed : Bool) → length rows ≤ at → at ≤ length rows → blocks_left rows start headed at ≡ block_at rows start (length rows) ∷ []
last_left rows start at headed h w =
    let e : at ≡ length rows = omega (arith, h, w) in
    ap (λ (l : List Row). blocks_after start headed (rows_between rows start at) l) (drop_all at rows h)
    ∙ ap (λ n. block_at rows start n ∷ []) e
