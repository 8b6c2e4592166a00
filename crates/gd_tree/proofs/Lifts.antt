-- Lifts shorten ways, and a new place leaves the ways between the others as they were.
use Rattle.std.proofs.Common.{◌≡◌, ℕ, suc, ◌+◌, ◌<◌, ◌≤◌, List, [], ◌∷◌, ◌++◌, get_or, refl, sym, ap, ◌∙◌, subst, arith, add-one, inl, inr, length, Bool, true, false, IsTrue}
use Rattle.std.proofs.lemmas.Bool.{cases_lt}
use Rattle.std.proofs.lemmas.List.{length-append, get_or_append_left, get_or_push, get_or_past}
use Rattle.gd_rules.specs.Question.{Element}
use Rattle.gd_rules.specs.Question.Element.{Segment, Pool}
use Rattle.gd_rules.specs.Tree.{LeadsTo}
use Rattle.gd_tree.specs.declared.Lift.{Lift}
use Rattle.gd_tree.specs.declared.Step.{Step}
use Rattle.gd_tree.specs.Grown.{Joins, IsGrown, IsNoSegment, earlier, low_of, walk_of, leads, goes_along, has_route}
use Rattle.gd_tree.specs.Lifts.{LiftsUp, LiftsDown, IsLift}
use Rattle.gd_tree.specs.Steps.{IsStep}
use Rattle.gd_tree.proofs.Agreement.{walk_agree}
use Rattle.gd_tree.proofs.Directions.{leads_yes, leads_so, runs_yes, runs_so}
use Rattle.gd_tree.proofs.Grown.{low_falls, earlier-from, earlier-to}
use Rattle.gd_tree.proofs.Steps.{step_front, step_back, runs_same}
use Rattle.gd_tree.proofs.Walks.{Hops, made, walk-within}

bool_same : (x y : Bool) → (x ≡ true → y ≡ true) → (y ≡ true → x ≡ true) → x ≡ y
bool_same true true f g = refl
bool_same true false f g = sym (f refl)
bool_same false true f g = g refl
bool_same false false f g = refl

-- A step along the segment's direction leaves as much of a way as there was.
pub step_same : (elements : List Element) (a b : ℕ) (s : Step) → IsGrown (length elements) elements → a ≤ length elements → b ≤ length elements → IsStep elements a b s → IsTrue s.along
    → has_route elements (length elements) s.from s.to ≡ has_route elements (length elements) a b
step_same elements a b s g h k i along = bool_same _ _
    (λ t. runs_yes elements (length elements) a b (i.runs_back along (runs_so elements (length elements) s.from s.to g i.from_known i.to_known t)))
    (λ t. runs_yes elements (length elements) s.from s.to (i.runs (runs_so elements (length elements) a b g h k t)).1)

-- Where it would be against it, there is none.
pub step_none : (elements : List Element) (a b : ℕ) (s : Step) → IsGrown (length elements) elements → a ≤ length elements → b ≤ length elements → IsStep elements a b s → s.along ≡ false
    → has_route elements (length elements) a b ≡ false
step_none elements a b s g h k i against = go (has_route elements (length elements) a b) refl
  where
    go : (v : Bool) → has_route elements (length elements) a b ≡ v → has_route elements (length elements) a b ≡ false
    go true e = absurd (let t : s.along ≡ true = (i.runs (runs_so elements (length elements) a b g h k e)).0 in let f : true ≡ false = sym t ∙ against in cc)
    go false e = e

pub same_place : (elements : List Element) (a b : ℕ) → a ≡ b → b ≤ length elements → has_route elements (length elements) a b ≡ true
same_place elements a b e h = runs_yes elements (length elements) a b (runs_same elements (length elements) a b e h)

-- a place lifts to itself
pub stays_up : (elements : List Element) (v : ℕ) → LiftsUp elements v v
stays_up elements v = record { below = omega arith; same = λ b h. refl }

pub stays_down : (elements : List Element) (v : ℕ) → LiftsDown elements v v
stays_down elements v = record { below = omega arith; same = λ a h. refl }

pub up_twice : (elements : List Element) (v u w : ℕ) → LiftsUp elements v u → LiftsUp elements u w → LiftsUp elements v w
up_twice elements v u w h k = record {
  below = (let p = h.below in let q = k.below in omega (arith, p, q));
  same = λ b i. h.same b (let q = k.below in omega (arith, q, i)) ∙ k.same b i;
}

pub down_twice : (elements : List Element) (v u w : ℕ) → LiftsDown elements v u → LiftsDown elements u w → LiftsDown elements v w
down_twice elements v u w h k = record {
  below = (let p = h.below in let q = k.below in omega (arith, p, q));
  same = λ b i. h.same b (let q = k.below in omega (arith, q, i)) ∙ k.same b i;
}

along_below : (low : ℕ → ℕ) (n : ℕ) (some other : List Element) → ((s x y : ℕ) → s < n → leads (get_or some s (Pool 0)) x y ≡ leads (get_or other s (Pool 0)) x y)
    → (a : ℕ) (steps : List (ℕ × ℕ)) (b : ℕ) → Hops low n a steps b → goes_along some a steps ≡ goes_along other a steps
along_below low n some other h a [] b hops = refl
along_below low n some other h a (s ∷ steps) b hops = rw (h s.0 a s.1 hops.0.0, along_below low n some other h s.1 steps b hops.1) refl

module _ (tree : List Element) (x : Element) (g : IsGrown (length tree) tree) (j : Joins (length tree) x) where
  abbrev n : ℕ
  n = length tree

  abbrev more : List Element
  more = tree ++ x ∷ []

  longer : length more ≡ suc n
  longer = length-append tree (x ∷ []) ∙ add-one n

  old_at : (k : ℕ) → k < n → get_or more k (Pool 0) ≡ get_or tree k (Pool 0)
  old_at k h = get_or_append_left tree (x ∷ []) (Pool 0) k h

  new_at : get_or more n (Pool 0) ≡ x
  new_at = get_or_push tree x (Pool 0) n refl

  none_at : (k : ℕ) → suc n ≤ k → IsNoSegment (get_or more k (Pool 0))
  none_at k h = subst IsNoSegment (sym (get_or_past more k (Pool 0) (subst (λ m. m ≤ k) (sym longer) h))) tt

  pub grown_more : IsGrown (length more) more
  grown_more = subst (λ m. IsGrown m more) (sym longer) (record {
    joins = λ k h. elim (cases_lt k n) [
      | inl i ↦ subst (Joins k) (sym (old_at k i)) (g.joins k i)
      | inr i ↦ let e : n ≡ k = omega arith in subst (λ k. Joins k (get_or more k (Pool 0))) e (subst (Joins n) (sym new_at) j)
    ];
    others = none_at;
  })

  -- between the places that were there a route is as it was
  pub route_old : (a b : ℕ) → a ≤ n → b ≤ n → has_route more (length more) a b ≡ has_route tree n a b
  route_old a b h k =
      ap (λ m. goes_along more a (walk_of more m a b)) longer
      ∙ ap (goes_along more a) (walk-within (low_of more) n a b h k ∙ walk_agree (low_of more) (low_of tree) n (λ s i. ap (earlier s) (old_at s i)) a b)
      ∙ along_below (low_of tree) n more tree (λ s x y i. ap (λ e. leads e x y) (old_at s i)) a (walk_of tree n a b) b ((made (low_of tree) n (low_falls n tree g) n a b (omega arith) h k).0.0)

  abbrev p : ℕ
  p = earlier n x

  low_is : low_of more n ≡ p
  low_is = ap (earlier n) new_at

  front : (b : ℕ) → b ≤ n → leads x (suc n) p ≡ true → has_route more (length more) (suc n) b ≡ has_route more (length more) p b
  front b h along =
      let k : n < length more = subst (λ m. n < m) (sym longer) (omega arith) in
      let s = step_front more grown_more n b true k h (λ t. subst (λ e. LeadsTo e (suc n) (low_of more n)) (sym new_at) (subst (LeadsTo x (suc n)) (sym low_is) (leads_so x (suc n) p along))) (λ l. refl) in
      sym (step_same more (suc n) b (record { segment = n; along = true; from = low_of more n; to = b }) grown_more (omega (arith, k)) (omega (arith, k, h)) s refl)
      ∙ ap (λ z. has_route more (length more) z b) low_is

  back : (a : ℕ) → a ≤ n → leads x p (suc n) ≡ true → has_route more (length more) a (suc n) ≡ has_route more (length more) a p
  back a h along =
      let k : n < length more = subst (λ m. n < m) (sym longer) (omega arith) in
      let s = step_back more grown_more n a true k h (λ t. subst (λ e. LeadsTo e (low_of more n) (suc n)) (sym new_at) (subst (λ z. LeadsTo x z (suc n)) (sym low_is) (leads_so x p (suc n) along))) (λ l. refl) in
      sym (step_same more a (suc n) (record { segment = n; along = true; from = a; to = low_of more n }) grown_more (omega (arith, k, h)) (omega (arith, k)) s refl)
      ∙ ap (has_route more (length more) a) low_is

  up_kept : (v u : ℕ) → v ≤ n → LiftsUp tree v u → LiftsUp more v u
  up_kept v u h l = record {
    below = l.below;
    same = λ b i. let q = l.below in route_old v b h (omega (arith, q, i, h)) ∙ l.same b i ∙ sym (route_old u b (omega (arith, q, h)) (omega (arith, q, i, h)));
  }

  down_kept : (v u : ℕ) → v ≤ n → LiftsDown tree v u → LiftsDown more v u
  down_kept v u h l = record {
    below = l.below;
    same = λ a i. let q = l.below in route_old a v (omega (arith, q, i, h)) h ∙ l.same a i ∙ sym (route_old a u (omega (arith, q, i, h)) (omega (arith, q, h)));
  }

  -- The lift of the new place: up over the earlier place, where it can send there, or nowhere; and likewise down.
  pub up_new : (u : ℕ) → p ≤ n → leads x (suc n) p ≡ true → LiftsUp tree p u → LiftsUp more (suc n) u
  up_new u h along l = record {
    below = (let q = l.below in omega (arith, q, h));
    same = λ b i. let q = l.below in front b (omega (arith, q, h, i)) along ∙ (up_kept p u h l).same b i;
  }

  pub down_new : (d : ℕ) → p ≤ n → leads x p (suc n) ≡ true → LiftsDown tree p d → LiftsDown more (suc n) d
  down_new d h along l = record {
    below = (let q = l.below in omega (arith, q, h));
    same = λ a i. let q = l.below in back a (omega (arith, q, h, i)) along ∙ (down_kept p d h l).same a i;
  }

  pub lifts_more : (lifts : List Lift) (new : Lift) → length lifts ≡ n → ((k : ℕ) (l : Lift) → k < length lifts → l ≡ get_or lifts k l → IsLift tree (suc k) l) → IsLift more (suc n) new
      → (k : ℕ) (l : Lift) → k < length (lifts ++ new ∷ []) → l ≡ get_or (lifts ++ new ∷ []) k l → IsLift more (suc k) l
  lifts_more lifts new size each last k l h e = elim (cases_lt k (length lifts)) [
    | inl i ↦
        let old : IsLift tree (suc k) l = each k l i (e ∙ get_or_append_left lifts (new ∷ []) l k i) in
        record { up = up_kept (suc k) l.up (omega (arith, i, size)) old.up; down = down_kept (suc k) l.down (omega (arith, i, size)) old.down }
    | inr i ↦
        let m : length (lifts ++ new ∷ []) ≡ length lifts + 1 = length-append lifts (new ∷ []) in
        let at : length lifts ≡ k = omega (arith, m, h, i) in
        let same : l ≡ new = e ∙ get_or_push lifts new l k at in
        subst (λ z. IsLift more (suc z) l) (sym size ∙ at) (subst (IsLift more (suc n)) (sym same) last)
  ]

-- The lift of a new place that can send to the earlier one.
pub lift_sending : (tree : List Element) (from to capacity u : ℕ) → IsGrown (length tree) tree → Joins (length tree) (Segment from to capacity) → to < from → LiftsUp tree to u
    → IsLift (tree ++ Segment from to capacity ∷ []) (suc (length tree)) (record { up = u; down = from })
lift_sending tree from to capacity u g (inl j) h l =
    let p : earlier (length tree) (Segment from to capacity) ≡ to = earlier-from (length tree) from to capacity j.0 in
    record {
      up = up_new tree (Segment from to capacity) g (inl j) u (subst (λ z. z ≤ length tree) (sym p) j.1) (leads_yes (Segment from to capacity) (suc (length tree)) (earlier (length tree) (Segment from to capacity)) (j.0, sym p)) (subst (λ z. LiftsUp tree z u) (sym p) l);
      down = subst (λ z. LiftsDown (tree ++ Segment from to capacity ∷ []) (suc (length tree)) z) (sym j.0) (stays_down (tree ++ Segment from to capacity ∷ []) (suc (length tree)));
    }
lift_sending tree from to capacity u g (inr j) h l = absurd (let a : to ≡ suc (length tree) = j.0 in let b : from ≤ length tree = j.1 in omega arith)

-- And of one that the earlier place can send to.
pub lift_taking : (tree : List Element) (from to capacity d : ℕ) → IsGrown (length tree) tree → Joins (length tree) (Segment from to capacity) → from ≤ to → LiftsDown tree from d
    → IsLift (tree ++ Segment from to capacity ∷ []) (suc (length tree)) (record { up = to; down = d })
lift_taking tree from to capacity d g (inl j) h l = absurd (let a : from ≡ suc (length tree) = j.0 in let b : to ≤ length tree = j.1 in omega arith)
lift_taking tree from to capacity d g (inr j) h l =
    let p : earlier (length tree) (Segment from to capacity) ≡ from = earlier-to (length tree) from to capacity j.1 in
    record {
      up = subst (λ z. LiftsUp (tree ++ Segment from to capacity ∷ []) (suc (length tree)) z) (sym j.0) (stays_up (tree ++ Segment from to capacity ∷ []) (suc (length tree)));
      down = down_new tree (Segment from to capacity) g (inr j) d (subst (λ z. z ≤ length tree) (sym p) j.1) (leads_yes (Segment from to capacity) (earlier (length tree) (Segment from to capacity)) (suc (length tree)) (sym p, j.0)) (subst (λ z. LiftsDown tree z d) (sym p) l);
    }
