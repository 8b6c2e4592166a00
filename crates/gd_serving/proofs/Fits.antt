-- A piece that is taken again, line by line.
use Rattle.std.proofs.Common.{◌≡◌, ◌⊎◌, inl, inr, ℕ, ◌+◌, List, [], ◌∷◌, ◌++◌, Option, Some, None, append-nil, refl, sym, ap, ◌∙◌, add-zero, add_assoc}
use Rattle.std.specs.Prelude.{◌≢◌, MatchOption}
use Rattle.std.specs.Borrow.{Bor}
use Rattle.std.proofs.lemmas.List.{append_assoc, append_cancel_left}
use Rattle.gd_journal_store.specs.Pieces.{Piece}
use Rattle.gd_serving.specs.Lines.{cut, HasNoEnd}
use Rattle.gd_serving.specs.Yields.{Yield, rows_of, replies_of, kept_count, LinesGive}
use Rattle.gd_serving.specs.Replays.{BeginsWith, Replays, PieceDiffers}
use Rattle.gd_serving.proofs.Cutting.{Cut, cut_ended, cut_unended}
use Rattle.gd_serving.proofs.Giving.{rows_one, replies_one, kept_append, give_append, give_one}

pub begins_otherwise : (bytes front : List ℕ) (r : Option (Bor (List ℕ))) → MatchOption r ((rest : List ℕ) → bytes ≢ front ++ rest) (λ x. bytes ≡ front ++ x.now)
    → MatchOption r (¬ BeginsWith bytes front) (λ x. bytes ≡ front ++ x.now)
begins_otherwise bytes front None none = λ b. none b.0 b.1
begins_otherwise bytes front (Some x) is = is

-- What a loop over the lines of a piece keeps: those so far gave what the piece begins with.
pub record IsFitting {S : Type 0} (gives : S → List ℕ → S → Yield → Type 0) (s0 : S) (p : Piece) (first : ℕ) (s : S) (bytes rows told : List ℕ) (next : ℕ) : Type 0 where
  pub before : List (List ℕ)
  pub yields : List Yield
  pub whole : cut [] p.0 ≡ (before ++ (cut [] bytes).0, (cut [] bytes).1)
  pub gave : LinesGive gives s0 before s yields
  pub rows_left : p.0 ≡ rows_of yields ++ rows
  pub told_left : p.1 ≡ replies_of yields ++ told
  pub next_is : next ≡ first + kept_count yields

-- what is left, behind what came of one line more
left_more : (all was one more left now : List ℕ) → all ≡ was ++ left → left ≡ one ++ now → more ≡ was ++ one → all ≡ more ++ now
left_more all was one more left now a b e = a ∙ ap (λ l. was ++ l) b ∙ sym (append_assoc was one now) ∙ ap (λ l. l ++ now) (sym e)

-- where what is left doesn't begin with what comes of the line, all don't begin with what came so far
other_more : (all was one more left : List ℕ) → all ≡ was ++ left → more ≡ was ++ one → (¬ BeginsWith left one) → ¬ BeginsWith all more
other_more all was one more left a e none b =
    none (b.0, append_cancel_left was left (one ++ b.0) (sym a ∙ b.1 ∙ ap (λ l. l ++ b.0) e ∙ append_assoc was one b.0))

left_over : (all was left : List ℕ) → all ≡ was ++ left → left ≢ [] → all ≢ was
left_over all was left a some e = some (append_cancel_left was left [] (sym a ∙ e ∙ sym (append-nil was)))

module _ {S : Type 0} (gives : S → List ℕ → S → Yield → Type 0) (s0 : S) (p : Piece) (first : ℕ) where
  pub begins : IsFitting gives s0 p first s0 p.0 p.0 p.1 first
  begins = record { before = []; yields = []; whole = refl; gave = refl; rows_left = refl; told_left = refl; next_is = sym (add-zero first) }

  module _ (s : S) (bytes rows told : List ℕ) (next : ℕ) (here : IsFitting gives s0 p first s bytes rows told next) where
    module _ (line rest : List ℕ) (ends : HasNoEnd line) (is : bytes ≡ line ++ 10 ∷ rest) (t : S) (y : Yield) (gave : gives s line t y) where
      cut_is : cut [] p.0 ≡ (here.before ++ line ∷ (cut [] rest).0, (cut [] rest).1)
      cut_is = here.whole ∙ ap (λ (l : List ℕ). (here.before ++ (cut [] l).0, (cut [] l).1)) is ∙ ap (λ (c : Cut). (here.before ++ c.0, c.1)) (cut_ended [] line rest ends)

      pub line_fits : (rows1 told1 : List ℕ) (next1 : ℕ) → rows ≡ y.rows ++ rows1 → told ≡ y.replies ++ told1 → next1 ≡ next + kept_count (y ∷ []) → IsFitting gives s0 p first t rest rows1 told1 next1
      line_fits rows1 told1 next1 r e n = record {
        before = here.before ++ line ∷ [];
        yields = here.yields ++ y ∷ [];
        whole = cut_is ∙ ap (λ (l : List (List ℕ)). (l, (cut [] rest).1)) (sym (append_assoc here.before (line ∷ []) (cut [] rest).0));
        gave = give_append gives s0 here.before s here.yields (line ∷ []) t (y ∷ []) here.gave (give_one gives s line t y gave);
        rows_left = left_more p.0 (rows_of here.yields) y.rows (rows_of (here.yields ++ y ∷ [])) rows rows1 here.rows_left r (rows_one here.yields y);
        told_left = left_more p.1 (replies_of here.yields) y.replies (replies_of (here.yields ++ y ∷ [])) told told1 here.told_left e (replies_one here.yields y);
        next_is = n ∙ ap (λ m. m + kept_count (y ∷ [])) here.next_is ∙ add_assoc first (kept_count here.yields) (kept_count (y ∷ [])) ∙ ap (λ m. first + m) (sym (kept_append here.yields (y ∷ [])));
      }

      pub line_differs : (¬ BeginsWith rows y.rows) ⊎ (¬ BeginsWith told y.replies) → PieceDiffers gives s0 p first next
      line_differs other = record {
        lines = here.before;
        rest = line ∷ (cut [] rest).0;
        front = ap (λ (c : Cut). c.0) cut_is;
        mid = s;
        yields = here.yields;
        gave = here.gave;
        rows = (rows, here.rows_left);
        replies = (told, here.told_left);
        number = here.next_is;
        differs = inl (record {
          line = line;
          more = (cut [] rest).0;
          is = refl;
          stand = t;
          yield = y;
          gave = gave;
          other = elim other [
            | inl none ↦ inl (other_more p.0 (rows_of here.yields) y.rows (rows_of (here.yields ++ y ∷ [])) rows here.rows_left (rows_one here.yields y) none)
            | inr none ↦ inr (other_more p.1 (replies_of here.yields) y.replies (replies_of (here.yields ++ y ∷ [])) told here.told_left (replies_one here.yields y) none)
          ];
        });
      }

    module _ (none : HasNoEnd bytes) where
      cut_all : cut [] p.0 ≡ (here.before, bytes)
      cut_all = here.whole ∙ ap (λ (c : Cut). (here.before ++ c.0, c.1)) (cut_unended [] bytes none) ∙ ap (λ (l : List (List ℕ)). (l, bytes)) (append-nil here.before)

      pub piece_fits : bytes ≡ [] → rows ≡ [] → told ≡ [] → (calls : ℕ) × Replays gives s0 (p ∷ []) s calls × (next ≡ first + calls)
      piece_fits b r e = (
        kept_count here.yields,
        record {
          lines = here.before;
          whole = ap (cut []) (append-nil p.0) ∙ cut_all ∙ ap (λ (l : List ℕ). (here.before, l)) b;
          yields = here.yields;
          gave = here.gave;
          are = record {
            rows = append-nil p.0 ∙ here.rows_left ∙ ap (λ l. rows_of here.yields ++ l) r ∙ append-nil (rows_of here.yields);
            replies = append-nil p.1 ∙ here.told_left ∙ ap (λ l. replies_of here.yields ++ l) e ∙ append-nil (replies_of here.yields);
          };
          count = refl;
        },
        here.next_is,
      )

      pub end_differs : (bytes ≢ []) ⊎ ((rows ≢ []) ⊎ (told ≢ [])) → PieceDiffers gives s0 p first next
      end_differs some = record {
        lines = here.before;
        rest = [];
        front = ap (λ (c : Cut). c.0) cut_all ∙ sym (append-nil here.before);
        mid = s;
        yields = here.yields;
        gave = here.gave;
        rows = (rows, here.rows_left);
        replies = (told, here.told_left);
        number = here.next_is;
        differs = inr (record {
          none = refl;
          other = elim some [
            | inl begun ↦ inr (inr (λ e. begun (sym (ap (λ (c : Cut). c.1) cut_all) ∙ e)))
            | inr behind ↦ elim behind [
              | inl more ↦ inl (left_over p.0 (rows_of here.yields) rows here.rows_left more)
              | inr more ↦ inr (inl (left_over p.1 (replies_of here.yields) told here.told_left more))
            ]
          ];
        });
      }
