-- Whether a walk runs along the segments' directions, as a test.
use Rattle.std.proofs.Common.{◌≡◌, ℕ, ◌<◌, ◌≤◌, List, [], ◌∷◌, ◌++◌, get_or, refl, sym, ap, ◌∙◌, subst, arith, inl, inr, length, Bool, true, false, IsTrue}
use Rattle.std.specs.Prelude.{◌⊎◌, ◌==◌, ◌&&◌}
use Rattle.std.proofs.lemmas.Bool.{eq-eqb, eqb-true}
use Rattle.std.proofs.lemmas.List.{length-map, length-append, get_or_append_left, get_or-append_right, get_or_past}
use Rattle.gd_rules.specs.Question.{Element}
use Rattle.gd_rules.specs.Question.Element.{Segment, Receipt, Delivery, Pool}
use Rattle.gd_rules.specs.Tree.{LeadsTo, Follows, IsRoute}
use Rattle.gd_tree.specs.Walk.{walk}
use Rattle.gd_tree.specs.Grown.{IsNoSegment, IsGrown, Runs, low_of, walk_of, route_of, leads, goes_along, has_route}
use Rattle.gd_tree.proofs.Walks.{Hops, made, walk_by}
use Rattle.gd_tree.proofs.Grown.{below_or, low_falls, route_only, route_made}
use Rattle.gd_tree.proofs.Agreement.{walk_with}

pub both : (u v : Bool) → u ≡ true → v ≡ true → (u && v) ≡ true
both u v e f = rw (e, f) refl

pub parts : (u v : Bool) → (u && v) ≡ true → (u ≡ true) × (v ≡ true)
parts true v e = (refl, e)
parts false v e = cc

-- the test of one step
pub leads_yes : (e : Element) (a b : ℕ) → LeadsTo e a b → leads e a b ≡ true
leads_yes (Segment from to capacity) a b h = both (from == a) (to == b) (eq-eqb from a h.0) (eq-eqb to b h.1)
leads_yes (Receipt place capacity) a b h = absurd h
leads_yes (Delivery place capacity) a b h = absurd h
leads_yes (Pool place) a b h = absurd h

pub leads_so : (e : Element) (a b : ℕ) → leads e a b ≡ true → LeadsTo e a b
leads_so (Segment from to capacity) a b h = let p = parts (from == a) (to == b) h in (eqb-true from a p.0, eqb-true to b p.1)
leads_so (Receipt place capacity) a b h = cc
leads_so (Delivery place capacity) a b h = cc
leads_so (Pool place) a b h = cc

along_yes : (elements : List Element) (a : ℕ) (steps : List (ℕ × ℕ)) (b : ℕ) → Follows elements a steps b → goes_along elements a steps ≡ true
along_yes elements a [] b f = refl
along_yes elements a (s ∷ steps) b f = both _ _ (leads_yes (get_or elements s.0 (Pool 0)) a s.1 f.0) (along_yes elements s.1 steps b f.1)

along_so : (low : ℕ → ℕ) (n : ℕ) (elements : List Element) (a : ℕ) (steps : List (ℕ × ℕ)) (b : ℕ) → goes_along elements a steps ≡ true → Hops low n a steps b → Follows elements a steps b
along_so low n elements a [] b e h = h
along_so low n elements a (s ∷ steps) b e h =
    let p = parts (leads (get_or elements s.0 (Pool 0)) a s.1) (goes_along elements s.1 steps) e in
    (leads_so (get_or elements s.0 (Pool 0)) a s.1 p.0, along_so low n elements s.1 steps b p.1 h.1)

-- The test answers whether the walk runs.
pub runs_yes : (elements : List Element) (n a b : ℕ) → Runs elements n a b → has_route elements n a b ≡ true
runs_yes elements n a b r = along_yes elements a (walk_of elements n a b) b r

pub runs_so : (elements : List Element) (n a b : ℕ) → IsGrown n elements → a ≤ n → b ≤ n → has_route elements n a b ≡ true → Runs elements n a b
runs_so elements n a b g h k e =
    let top : n ≤ n = omega arith in
    along_so (low_of elements) n elements a (walk_of elements n a b) b e (made (low_of elements) n (low_falls n elements g) n a b top h k).0.0

-- A test and a fact that agree.
pub test_is : (v w : Bool) → (IsTrue v → w ≡ true) → (w ≡ true → IsTrue v) → v ≡ w
test_is true true f g = refl
test_is true false f g = let e : false ≡ true = f refl in cc
test_is false true f g = let e : false ≡ true = g refl in cc
test_is false false f g = refl

-- The test answers whether there is a route, and the route is the walk's.
pub routes : (elements : List Element) (n a b : ℕ) → IsGrown n elements → a ≤ n → b ≤ n
    → (has_route elements n a b ≡ true → IsRoute elements a (route_of elements n a b) b) × ((route : List ℕ) → IsRoute elements a route b → (has_route elements n a b ≡ true) × (route ≡ route_of elements n a b))
routes elements n a b g h k = (
  (λ e. route_made n elements g a b h k (runs_so elements n a b g h k e)),
  (λ route r. let o = route_only n elements g a b route h k r in (runs_yes elements n a b o.1, o.0)),
)

-- Elements that are alike but for their capacities, as far as steps along them go.
pub along_agree : (some other : List Element) → ((s x y : ℕ) → leads (get_or some s (Pool 0)) x y ≡ leads (get_or other s (Pool 0)) x y) → (a : ℕ) (steps : List (ℕ × ℕ)) → goes_along some a steps ≡ goes_along other a steps
along_agree some other h a [] = refl
along_agree some other h a (s ∷ steps) = rw (h s.0 a s.1, along_agree some other h s.1 steps) refl

no_lead : (e : Element) (x y : ℕ) → IsNoSegment e → leads e x y ≡ false
no_lead (Segment from to capacity) x y h = absurd h
no_lead (Receipt place capacity) x y h = refl
no_lead (Delivery place capacity) x y h = refl
no_lead (Pool place) x y h = refl

-- Points and pools behind the segments change no answer.
pub has_route_with : (tree ends : List Element) → ((k : ℕ) → IsNoSegment (get_or ends k (Pool 0))) → (a b : ℕ) → has_route (tree ++ ends) (length tree) a b ≡ has_route tree (length tree) a b
has_route_with tree ends none a b =
    ap (goes_along (tree ++ ends) a) (walk_with tree ends a b) ∙ along_agree (tree ++ ends) tree same a (walk_of tree (length tree) a b)
  where
    go : (s x y : ℕ) → (s < length tree) ⊎ (length tree ≤ s) → leads (get_or (tree ++ ends) s (Pool 0)) x y ≡ leads (get_or tree s (Pool 0)) x y
    go s x y (inl i) = ap (λ e. leads e x y) (get_or_append_left tree ends (Pool 0) s i)
    go s x y (inr i) =
        no_lead (get_or (tree ++ ends) s (Pool 0)) x y (subst IsNoSegment (sym (get_or-append_right tree ends (length tree) s (Pool 0) refl i)) (none _))
        ∙ sym (ap (λ e. leads e x y) (get_or_past tree s (Pool 0) i))

    same : (s x y : ℕ) → leads (get_or (tree ++ ends) s (Pool 0)) x y ≡ leads (get_or tree s (Pool 0)) x y
    same s x y = go s x y (below_or s (length tree))

-- A walk has at most as many steps as there are segments.
steps_few : (low : ℕ → ℕ) (n a b : ℕ) → length (walk low n a b) ≤ n
steps_few low =
    walk_by low (λ n w. length w ≤ n)
    (λ n. omega arith)
    (λ n w h. omega arith)
    (λ n w h. simp length-append (omega arith))
    (λ n w h. omega arith)

pub route_few : (elements : List Element) (n a b : ℕ) → length (route_of elements n a b) ≤ n
route_few elements n a b = rw (length-map (walk_of elements n a b) (λ s. s.0)) (steps_few (low_of elements) n a b)

pub never : (v : Bool) → (v ≡ true → ⊥) → false ≡ v
never true h = absurd (h refl)
never false h = refl
