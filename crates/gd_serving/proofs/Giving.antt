-- What lines give, one after the other.
use Rattle.std.proofs.Common.{◌≡◌, ℕ, ◌+◌, cond, not, List, [], ◌∷◌, ◌++◌, append-nil, refl, sym, ap, subst, ◌∙◌}
use Rattle.std.proofs.lemmas.List.{append_assoc}
use Rattle.std.proofs.lemmas.Grind.{flat_map-append}
use Rattle.std.proofs.lemmas.List.Sums.{sum_by-append}
use Rattle.gd_serving.specs.Yields.{Yield, kept_of, is_nothing, kept_count, rows_of, replies_of, told_of, total, Adds, LinesGive}

pub rows_append : (ys zs : List Yield) → rows_of (ys ++ zs) ≡ rows_of ys ++ rows_of zs
rows_append ys zs = flat_map-append (λ (y : Yield). y.rows) ys zs

pub replies_append : (ys zs : List Yield) → replies_of (ys ++ zs) ≡ replies_of ys ++ replies_of zs
replies_append ys zs = flat_map-append (λ (y : Yield). y.replies) ys zs

pub told_append : (ys zs : List Yield) → told_of (ys ++ zs) ≡ told_of ys ++ told_of zs
told_append ys zs = flat_map-append (λ (y : Yield). y.told) ys zs

pub kept_append : (ys zs : List Yield) → kept_count (ys ++ zs) ≡ kept_count ys + kept_count zs
kept_append ys zs = sum_by-append (λ (y : Yield). cond (not (is_nothing (kept_of y))) 1 0) ys zs

-- one line more
pub rows_one : (ys : List Yield) (y : Yield) → rows_of (ys ++ y ∷ []) ≡ rows_of ys ++ y.rows
rows_one ys y = rows_append ys (y ∷ []) ∙ ap (λ l. rows_of ys ++ l) (append-nil y.rows)

pub replies_one : (ys : List Yield) (y : Yield) → replies_of (ys ++ y ∷ []) ≡ replies_of ys ++ y.replies
replies_one ys y = replies_append ys (y ∷ []) ∙ ap (λ l. replies_of ys ++ l) (append-nil y.replies)

pub told_one : (ys : List Yield) (y : Yield) → told_of (ys ++ y ∷ []) ≡ told_of ys ++ y.told
told_one ys y = told_append ys (y ∷ []) ∙ ap (λ l. told_of ys ++ l) (append-nil y.told)

pub adds_none : (x : Yield) → Adds x x (total [])
adds_none x = record { rows = sym (append-nil x.rows); replies = sym (append-nil x.replies); told = sym (append-nil x.told) }

then_more : (old mid new first rest all : List ℕ) → mid ≡ old ++ first → new ≡ mid ++ rest → all ≡ first ++ rest → new ≡ old ++ all
then_more old mid new first rest all a b e = b ∙ ap (λ l. l ++ rest) a ∙ append_assoc old first rest ∙ ap (λ l. old ++ l) (sym e)

-- what is added behind what was added
pub adds_more : (x m z : Yield) (ys : List Yield) (y : Yield) → Adds x m (total ys) → Adds m z y → Adds x z (total (ys ++ y ∷ []))
adds_more x m z ys y a b = record {
  rows = then_more _ _ _ _ _ _ a.rows b.rows (rows_one ys y);
  replies = then_more _ _ _ _ _ _ a.replies b.replies (replies_one ys y);
  told = then_more _ _ _ _ _ _ a.told b.told (told_one ys y);
}

module _ {S : Type 0} (gives : S → List ℕ → S → Yield → Type 0) where
  -- lines behind lines
  pub give_append : (s : S) (lines : List (List ℕ)) (mid : S) (ys : List Yield) (more : List (List ℕ)) (t : S) (zs : List Yield)
      → LinesGive gives s lines mid ys → LinesGive gives mid more t zs → LinesGive gives s (lines ++ more) t (ys ++ zs)
  give_append s [] mid [] more t zs a b = subst (λ (u : S). LinesGive gives u more t zs) a b
  give_append s [] mid (y ∷ ys) more t zs a b = absurd a
  give_append s (line ∷ lines) mid [] more t zs a b = absurd a
  give_append s (line ∷ lines) mid (y ∷ ys) more t zs a b = (a.0, a.1, give_append a.0 lines mid ys more t zs a.2 b)

  pub give_one : (s : S) (line : List ℕ) (t : S) (y : Yield) → gives s line t y → LinesGive gives s (line ∷ []) t (y ∷ [])
  give_one s line t y a = (t, a, refl)
