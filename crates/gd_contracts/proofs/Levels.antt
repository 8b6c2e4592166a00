-- Along one-way segments that grew place by place, gas never comes to a place twice: each segment leads one level up.
use Rattle.std.proofs.Common.{◌≡◌, ℕ, zero, suc, ◌<◌, ◌≤◌, List, [], ◌∷◌, get_or, refl, sym, ap, ◌∙◌, subst, arith, inl, inr}
use Rattle.std.specs.Prelude.{◌⊎◌, ◌==◌, if◌then◌else◌}
use Rattle.gd_rules.specs.Question.{Element}
use Rattle.gd_rules.specs.Question.Element.{Segment, Receipt, Delivery, Pool}
use Rattle.gd_rules.specs.Tree.{LeadsTo, Follows}
use Rattle.gd_tree.specs.Grown.{Joins, IsNoSegment, IsGrown, walk_of, Runs}
use Rattle.gd_tree.proofs.Walks.{same-if, other-if, top_or, Free, Apart}
use Rattle.gd_tree.proofs.Grown.{below_or, distinct_of, follows_walk, path_only}

-- where the element leads, it leads one level up
abbrev pub Lifts : (ℕ → ℕ) → Element → Type 0
Lifts level e = (a b : ℕ) → LeadsTo e a b → level b ≡ suc (level a)

joins_within : (k a b : ℕ) (e : Element) → Joins k e → LeadsTo e a b → (a ≤ suc k) × (b ≤ suc k)
joins_within k a b (Segment from to capacity) (inl j) d = let x : from ≡ a = d.0 in let y : to ≡ b = d.1 in (omega (arith, j.0, j.1), omega (arith, j.0, j.1))
joins_within k a b (Segment from to capacity) (inr j) d = let x : from ≡ a = d.0 in let y : to ≡ b = d.1 in (omega (arith, j.0, j.1), omega (arith, j.0, j.1))
joins_within k a b (Receipt place capacity) j d = absurd j
joins_within k a b (Delivery place capacity) j d = absurd j
joins_within k a b (Pool place) j d = absurd j

-- the levels with that of one more place
abbrev lifted : (ℕ → ℕ) → ℕ → ℕ → ℕ → ℕ
lifted level top l p = if p == top then l else level p

lifted_top : (level : ℕ → ℕ) (top l p : ℕ) → p ≡ top → lifted level top l p ≡ l
lifted_top level top l p e = same-if p top l (level p) e

lifted_low : (level : ℕ → ℕ) (top l p : ℕ) → p < top → lifted level top l p ≡ level p
lifted_low level top l p h = other-if p top l (level p) (λ e. absurd (omega arith))

-- an earlier segment still leads one level up
still : (level : ℕ → ℕ) (n k l : ℕ) (e : Element) → k < n → Joins k e → Lifts level e → Lifts (lifted level (suc n) l) e
still level n k l e h j f a b d =
    let within : (a ≤ suc k) × (b ≤ suc k) = joins_within k a b e j d in
    let x : a ≤ suc k = within.0 in
    let y : b ≤ suc k = within.1 in
    lifted_low level (suc n) l b (omega arith) ∙ f a b d ∙ ap suc (sym (lifted_low level (suc n) l a (omega arith)))

-- levels for the first n segments
abbrev pub Graded : ℕ → List Element → Type 0
Graded n elements = (level : ℕ → ℕ) × ((k : ℕ) → k < n → Lifts level (get_or elements k (Pool 0)))

new_up : (level : ℕ → ℕ) (n from to capacity : ℕ) → to ≡ suc n → from ≤ n → Lifts (lifted level (suc n) (suc (level from))) (Segment from to capacity)
new_up level n from to capacity e h a b d =
    let x : from ≡ a = d.0 in
    lifted_top level (suc n) (suc (level from)) b (sym d.1 ∙ e)
    ∙ ap (λ p. suc (level p)) x
    ∙ ap suc (sym (lifted_low level (suc n) (suc (level from)) a (omega arith)))

new_down : (level : ℕ → ℕ) (n from to capacity : ℕ) → from ≡ suc n → to ≤ n → Lifts (lifted (λ p. suc (level p)) (suc n) (level to)) (Segment from to capacity)
new_down level n from to capacity e h a b d =
    let y : to ≡ b = d.1 in
    lifted_low (λ p. suc (level p)) (suc n) (level to) b (omega arith)
    ∙ ap (λ p. suc (level p)) (sym y)
    ∙ ap suc (sym (lifted_top (λ p. suc (level p)) (suc n) (level to) a (sym d.0 ∙ e)))

-- one more segment
grade : (n : ℕ) (elements : List Element) (e : Element) → e ≡ get_or elements n (Pool 0) → Joins n e → ((k : ℕ) → k < n → Joins k (get_or elements k (Pool 0))) → Graded n elements → Graded (suc n) elements
grade n elements (Segment from to capacity) is (inl j) joins g = (
  lifted (λ p. suc (g.0 p)) (suc n) (g.0 to),
  λ k h. go k (top_or n (suc k) (omega arith)),
)
  where
    go : (k : ℕ) → (suc k ≡ suc n) ⊎ (suc k ≤ n) → Lifts (lifted (λ p. suc (g.0 p)) (suc n) (g.0 to)) (get_or elements k (Pool 0))
    go k (inl e) = let same : n ≡ k = omega arith in subst (λ i. Lifts (lifted (λ p. suc (g.0 p)) (suc n) (g.0 to)) (get_or elements i (Pool 0))) same (subst (Lifts (lifted (λ p. suc (g.0 p)) (suc n) (g.0 to))) is (new_down g.0 n from to capacity j.0 j.1))
    go k (inr h) = still (λ p. suc (g.0 p)) n k (g.0 to) (get_or elements k (Pool 0)) h (joins k h) (λ a b d. ap suc (g.1 k h a b d))
grade n elements (Segment from to capacity) is (inr j) joins g = (
  lifted g.0 (suc n) (suc (g.0 from)),
  λ k h. go k (top_or n (suc k) (omega arith)),
)
  where
    go : (k : ℕ) → (suc k ≡ suc n) ⊎ (suc k ≤ n) → Lifts (lifted g.0 (suc n) (suc (g.0 from))) (get_or elements k (Pool 0))
    go k (inl e) = let same : n ≡ k = omega arith in subst (λ i. Lifts (lifted g.0 (suc n) (suc (g.0 from))) (get_or elements i (Pool 0))) same (subst (Lifts (lifted g.0 (suc n) (suc (g.0 from)))) is (new_up g.0 n from to capacity j.0 j.1))
    go k (inr h) = still g.0 n k (suc (g.0 from)) (get_or elements k (Pool 0)) h (joins k h) (g.1 k h)
grade n elements (Receipt place capacity) is j joins g = absurd j
grade n elements (Delivery place capacity) is j joins g = absurd j
grade n elements (Pool place) is j joins g = absurd j

graded : (n : ℕ) (elements : List Element) → ((k : ℕ) → k < n → Joins k (get_or elements k (Pool 0))) → Graded n elements
graded zero elements joins = ((λ p. 0), λ k h. absurd (omega arith))
graded (suc n) elements joins =
    grade n elements (get_or elements n (Pool 0)) refl (joins n (omega arith)) (λ k h. joins k (omega arith)) (graded n elements (λ k h. joins k (omega arith)))

leads_nowhere : (e : Element) (a b : ℕ) → IsNoSegment e → LeadsTo e a b → ⊥
leads_nowhere (Segment from to capacity) a b h d = h
leads_nowhere (Receipt place capacity) a b h d = d
leads_nowhere (Delivery place capacity) a b h d = d
leads_nowhere (Pool place) a b h d = d

-- each step leads to a place above a level
abbrev Above : (ℕ → ℕ) → ℕ → List (ℕ × ℕ) → Type 0
Above level l [] = Unit {0}
Above level l (s ∷ steps) = (l < level s.1) × Above level l steps

above_free : (level : ℕ → ℕ) (a : ℕ) (steps : List (ℕ × ℕ)) → Above level (level a) steps → Free a steps
above_free level a [] h = tt
above_free level a (s ∷ steps) h = ((λ e. let same : level a ≡ level s.1 = ap level e in let over : level a < level s.1 = h.0 in absurd (omega arith)), above_free level a steps h.1)

module _ (n : ℕ) (elements : List Element) (g : IsGrown n elements) where
  abbrev level : ℕ → ℕ
  level = (graded n elements g.joins).0

  lifts : (k : ℕ) → Lifts level (get_or elements k (Pool 0))
  lifts k a b d = go (below_or k n)
    where
      go : (k < n) ⊎ (n ≤ k) → level b ≡ suc (level a)
      go (inl h) = (graded n elements g.joins).1 k h a b d
      go (inr h) = absurd (leads_nowhere (get_or elements k (Pool 0)) a b (g.others k h) d)

  above : (l a : ℕ) (steps : List (ℕ × ℕ)) (b : ℕ) → l ≤ level a → Follows elements a steps b → Above level l steps
  above l a [] b h f = tt
  above l a (s ∷ steps) b h f =
      let up : level s.1 ≡ suc (level a) = lifts s.0 a s.1 f.0 in
      (omega arith, above l s.1 steps b (omega arith) f.1)

  free : (a : ℕ) (steps : List (ℕ × ℕ)) (b : ℕ) → Follows elements a steps b → Free a steps
  free a steps b f = above_free level a steps (above (level a) a steps b (omega arith) f)

  apart : (a : ℕ) (steps : List (ℕ × ℕ)) (b : ℕ) → Follows elements a steps b → Apart steps
  apart a [] b f = tt
  apart a (s ∷ steps) b f = (free s.1 steps b f.1, apart s.1 steps b f.1)

  -- What follows the segments' directions is the walk.
  pub follows_is : (a b : ℕ) (steps : List (ℕ × ℕ)) → a ≤ n → b ≤ n → Follows elements a steps b → steps ≡ walk_of elements n a b
  follows_is a b steps h k f = path_only n elements g a b h k steps (follows_walk elements a steps b f, distinct_of a steps (free a steps b f) (apart a steps b f))

  pub follows_runs : (a b : ℕ) (steps : List (ℕ × ℕ)) → a ≤ n → b ≤ n → Follows elements a steps b → Runs elements n a b
  follows_runs a b steps h k f = subst (λ w. Follows elements a w b) (follows_is a b steps h k f) f
