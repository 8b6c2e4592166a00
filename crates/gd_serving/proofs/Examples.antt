-- Lines, turns and pieces at worked examples: a desk that answers each line by the letter that it stands at, a or b.
use Rattle.std.proofs.Common.{◌≡◌, inl, inr, ℕ, Bool, true, false, not, List, [], ◌∷◌, ◌++◌, codes, get_or, arith, refl, sym, ap, subst, ◌∙◌, if◌then◌else◌}
use Rattle.gd_journal_store.specs.Pieces.{Piece}
use Rattle.gd_serving.specs.Lines.{cut, text_of_lines}
use Rattle.gd_serving.specs.Yields.{Yield, replies_of, told_of, piece_of, kept_count, LinesGive}
use Rattle.gd_serving.specs.Turns.{grown}
use Rattle.gd_serving.specs.Runs.{EndsAs}
use Rattle.gd_serving.specs.Replays.{Replays, PieceDiffers}
use Rattle.gd_serving.specs.declared.failure.Finish.TheVariants.{Ended, Unfinished}

-- the second line is unfinished, and is whole with the bytes that follow
worked_cut : cut [] (codes "ab\n\nc") ≡ (codes "ab" ∷ [] ∷ [], codes "c")
worked_cut = refl

worked_rest : cut (codes "c") (codes "d\ne") ≡ (codes "cd" ∷ [], codes "e")
worked_rest = refl

worked_text : text_of_lines (codes "a" ∷ codes "b,c" ∷ []) ≡ 97 ∷ 10 ∷ 98 ∷ 44 ∷ 99 ∷ 10 ∷ []
worked_text = refl

worked_ends : EndsAs [] Ended × EndsAs (codes "c") Unfinished
worked_ends = (refl, λ e. cc)

-- an empty line is told back and not kept; each other line is kept, and answered by the letter
abbrev answer : Bool → List ℕ
answer first = if first then codes "a\n" else codes "b\n"

abbrev yield_of : Bool → List ℕ → Yield
yield_of first [] = record { rows = []; replies = []; told = codes "\n" }
yield_of first (b ∷ line) = record { rows = (b ∷ line) ++ codes "\n"; replies = answer first; told = answer first }

abbrev next : Bool → List ℕ → Bool
next first [] = first
next first (b ∷ line) = not first

abbrev gives : Bool → List ℕ → Bool → Yield → Type 0
gives s line t y = (t ≡ next s line) × (y ≡ yield_of s line)

abbrev lines : List (List ℕ)
lines = codes "x" ∷ [] ∷ codes "y" ∷ []

abbrev yields : List Yield
yields = yield_of true (codes "x") ∷ yield_of false [] ∷ yield_of false (codes "y") ∷ []

worked_lines : LinesGive gives true lines true yields
worked_lines = (false, (refl, refl), (false, (refl, refl), (true, (refl, refl), refl)))

worked_told : told_of yields ≡ codes "a\n\nb\n"
worked_told = refl

worked_piece : piece_of yields ≡ (codes "x\ny\n", codes "a\nb\n")
worked_piece = refl

worked_count : kept_count yields ≡ 2
worked_count = refl

-- a line more than yields
worked_short : ¬ LinesGive gives true lines true (yield_of true (codes "x") ∷ [])
worked_short h = h.2

-- an empty line commits nothing
worked_grown : (ps : List Piece) → (grown ps (piece_of (yield_of true [] ∷ [])) ≡ ps) × (grown ps (piece_of yields) ≡ ps ++ piece_of yields ∷ [])
worked_grown ps = (refl, refl)

-- what is kept replays, without the empty line
worked_replay : Replays gives true (piece_of yields ∷ []) true 2
worked_replay = record {
  lines = codes "x" ∷ codes "y" ∷ [];
  whole = refl;
  yields = yield_of true (codes "x") ∷ yield_of false (codes "y") ∷ [];
  gave = (false, (refl, refl), (true, (refl, refl), refl));
  are = record { rows = refl; replies = refl };
  count = refl;
}

-- a changed reply
changed : (ys : List Yield) (t : Bool) → LinesGive gives true (codes "x" ∷ []) t ys → codes "b\n" ≡ replies_of ys → ⊥
changed [] t g e = g
changed (y ∷ []) t g e =
    let first : ◌≡◌ {A = ℕ} 98 97 = ap (λ (l : List ℕ). get_or l 0 0) e ∙ ap (λ (z : Yield). get_or (z.replies ++ []) 0 0) g.1.1 in
    omega (arith, first)
changed (y ∷ (z ∷ ys)) t g e = g.2

worked_change : ¬ ((t : Bool) × (n : ℕ) × Replays gives true ((codes "x\n", codes "b\n") ∷ []) t n)
worked_change h =
    let one : codes "x" ∷ [] ≡ h.2.lines = ap (λ (c : List (List ℕ) × List ℕ). c.0) h.2.whole in
    changed h.2.yields h.0 (subst (λ (l : List (List ℕ)). LinesGive gives true l h.0 h.2.yields) (sym one) h.2.gave) h.2.are.replies

-- a piece that ends within a line: the first call fits, and behind it the piece differs
worked_unfinished : PieceDiffers gives true (codes "x\ny", codes "a\n") 1 2
worked_unfinished = record {
  lines = codes "x" ∷ [];
  rest = [];
  front = refl;
  mid = false;
  yields = yield_of true (codes "x") ∷ [];
  gave = (false, (refl, refl), refl);
  rows = (codes "y", refl);
  replies = ([], refl);
  number = refl;
  differs = inr (record { none = refl; other = inl (λ e. cc) });
}
