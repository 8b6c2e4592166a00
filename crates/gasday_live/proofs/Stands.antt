-- What lines leave as it was.
use Rattle.std.proofs.Common.{◌≡◌, inl, inr, ℕ, List, [], ◌∷◌, refl, ap, ◌∙◌, arith}
use Rattle.gd_text_part.specs.Lines.{bare}
use Rattle.gd_live.proofs.AmongCalls.{opening_among}
use Rattle.gd_serving.specs.Yields.{Yield, LinesGive}
use Rattle.gd_live.specs.Lines.{RowDoes, BareGives, Gives, counted}
use Rattle.gd_live.specs.Stands.{Stand, IsGroup, no_group}

-- lines that are taken by something, as what is seen of it
pub lines_seen : {S : Type 0} (gives : S → List ℕ → S → Yield → Type 0) (f : S → Stand) → ((s : S) (line : List ℕ) (t : S) (y : Yield) → gives s line t y → Gives (f s) line (f t) y)
    → (s : S) (lines : List (List ℕ)) (t : S) (ys : List Yield) → LinesGive gives s lines t ys → LinesGive Gives (f s) lines (f t) ys
lines_seen gives f one s [] t [] same = ap f same
lines_seen gives f one s [] t (y ∷ ys) bad = absurd bad
lines_seen gives f one s (line ∷ lines) t [] bad = absurd bad
lines_seen gives f one s (line ∷ lines) t (y ∷ ys) (mid, gave, later) = (f mid, one s line mid y gave, lines_seen gives f one mid lines t ys later)

-- where no row waits
pub none_waits : (s : Stand) → s.group ≡ no_group → IsGroup s.number s.group
none_waits s none = rw none (record {
  lines = [];
  plain = tt;
  bytes = refl;
  began = s.number;
  number_is = omega arith;
  one_each = refl;
  reads = refl;
  among = opening_among;
  wait = tt;
})

row_day : (s t : Stand) (line : List ℕ) (y : Yield) → RowDoes s line t y → t.day ≡ s.day
row_day s t line y (inl (told, why, same, is)) = ap (λ (x : Stand). x.day) same
row_day s t line y (inr (inl (r, place, isrow, room, other, same, is))) = ap (λ (x : Stand). x.day) same
row_day s t line y (inr (inr (r, place, e, isrow, room, event, inl (made, settle)))) = made.day
row_day s t line y (inr (inr (r, place, e, isrow, room, event, inr (moment, settles, (g, last, concluding, conclusion, made, more))))) = made.day

bare_day : (s t : Stand) (line : List ℕ) (y : Yield) → BareGives s line t y → t.day ≡ s.day
bare_day s t line y (inl (none, same, is)) = ap (λ (x : Stand). x.day) same
bare_day s t line y (inr (some, row)) = row_day (counted s) t line y row

-- lines leave the day
pub lines_day : (s t : Stand) (lines : List (List ℕ)) (ys : List Yield) → IsGroup s.number s.group → LinesGive Gives s lines t ys → t.day ≡ s.day
lines_day s t [] [] waits same = ap (λ (x : Stand). x.day) same
lines_day s t [] (y ∷ ys) waits bad = absurd bad
lines_day s t (line ∷ lines) [] waits bad = absurd bad
lines_day s t (line ∷ lines) (y ∷ ys) waits (mid, gives, later) =
    let it = gives waits in lines_day mid t lines ys it.1 later ∙ bare_day s mid (bare line) y it.0
