-- A block that is cut line by line.
use Rattle.std.proofs.Common.{◌≡◌, ℕ, List, [], ◌∷◌, ◌++◌, append-nil, refl, sym, ap, subst, ◌∙◌}
use Rattle.std.proofs.lemmas.List.{append_assoc}
use Rattle.gd_serving.specs.Lines.{cut, HasNoEnd}
use Rattle.gd_serving.specs.Yields.{Yield, total, Adds, LinesGive}
use Rattle.gd_serving.proofs.Cutting.{Cut, cut_ended, cut_unended}
use Rattle.gd_serving.proofs.Giving.{adds_none, adds_more, give_append, give_one}

-- What a loop over the lines of a block keeps: those so far were taken, and the rest is still to be cut.
pub record IsCutting {S : Type 0} (gives : S → List ℕ → S → Yield → Type 0) (begun0 block : List ℕ) (s0 : S) (x0 : Yield) (s : S) (begun rest : List ℕ) (x : Yield) : Type 0 where
  pub before : List (List ℕ)
  pub yields : List Yield
  pub whole : cut begun0 block ≡ (before ++ (cut begun rest).0, (cut begun rest).1)
  pub gave : LinesGive gives s0 before s yields
  pub adds : Adds x0 x (total yields)

module _ {S : Type 0} (gives : S → List ℕ → S → Yield → Type 0) (begun0 block : List ℕ) (s0 : S) (x0 : Yield) where
  pub begins : IsCutting gives begun0 block s0 x0 s0 begun0 block x0
  begins = record { before = []; yields = []; whole = refl; gave = refl; adds = adds_none x0 }

  module _ (s : S) (begun rest : List ℕ) (x : Yield) (here : IsCutting gives begun0 block s0 x0 s begun rest x) where
    pub line_taken : (end behind : List ℕ) (t : S) (z y : Yield) → HasNoEnd end → rest ≡ end ++ 10 ∷ behind → gives s (begun ++ end) t y → Adds x z y → IsCutting gives begun0 block s0 x0 t [] behind z
    line_taken end behind t z y ends is gave adds = record {
      before = here.before ++ (begun ++ end) ∷ [];
      yields = here.yields ++ y ∷ [];
      whole = here.whole ∙ ap (λ (l : List ℕ). (here.before ++ (cut begun l).0, (cut begun l).1)) is
          ∙ ap (λ (c : Cut). (here.before ++ c.0, c.1)) (cut_ended begun end behind ends)
          ∙ ap (λ (l : List (List ℕ)). (l, (cut [] behind).1)) (sym (append_assoc here.before ((begun ++ end) ∷ []) (cut [] behind).0));
      gave = give_append gives s0 here.before s here.yields ((begun ++ end) ∷ []) t (y ∷ []) here.gave (give_one gives s (begun ++ end) t y gave);
      adds = adds_more x0 x z here.yields y here.adds adds;
    }

    module _ (none : HasNoEnd rest) where
      all : cut begun0 block ≡ (here.before, begun ++ rest)
      all = here.whole ∙ ap (λ (c : Cut). (here.before ++ c.0, c.1)) (cut_unended begun rest none) ∙ ap (λ (l : List (List ℕ)). (l, begun ++ rest)) (append-nil here.before)

      pub block_taken : (ys : List Yield) × LinesGive gives s0 (cut begun0 block).0 s ys × Adds x0 x (total ys)
      block_taken = (here.yields, subst (λ (l : List (List ℕ)). LinesGive gives s0 l s here.yields) (sym (ap (λ (c : Cut). c.0) all)) here.gave, here.adds)

      pub beginning_left : (begun1 : List ℕ) → begun1 ≡ begun ++ rest → begun1 ≡ (cut begun0 block).1
      beginning_left begun1 is = is ∙ sym (ap (λ (c : Cut). c.1) all)
