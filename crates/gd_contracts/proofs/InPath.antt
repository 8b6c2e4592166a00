-- A route lies on a primary route exactly if gas can flow from the primary origin to its first place, and on from its last to the primary destination.
use Rattle.std.proofs.Common.{◌≡◌, ◌≢◌, ℕ, ◌≤◌, Bool, true, false, List, [], ◌∷◌, ◌++◌, get_or, map, refl, sym, ap, ◌∙◌, subst}
use Rattle.std.specs.Prelude.{◌==◌, ◌&&◌, ◌||◌}
use Rattle.std.specs.List.{list_all, list_any}
use Rattle.std.proofs.lemmas.Bool.{eqb-true, eq-eqb}
use Rattle.std.proofs.lemmas.List.Folds.{list_any-append}
use Rattle.gd_rules.specs.Question.{Element}
use Rattle.gd_rules.specs.Question.Element.{Segment, Receipt, Delivery, Pool}
use Rattle.gd_rules.specs.Tree.{LeadsTo, Follows}
use Rattle.gd_rules.specs.Class.{lies_on}
use Rattle.gd_tree.specs.Grown.{IsGrown, walk_of, route_of, Runs, has_route}
use Rattle.gd_tree.proofs.Directions.{runs_yes, runs_so}
use Rattle.gd_tree.proofs.Steps.{route_same}
use Rattle.gd_contracts.proofs.Levels.{follows_is, follows_runs}

abbrev segments : List (ℕ × ℕ) → List ℕ
segments steps = map (λ s. s.0) steps

abbrev among : List ℕ → ℕ → Bool
among route k = list_any (λ s. s == k) route

-- a segment leads from one place to one other
same_ends : (e : Element) (a b x y : ℕ) → LeadsTo e a b → LeadsTo e x y → (a ≡ x) × (b ≡ y)
same_ends (Segment from to capacity) a b x y d f = (sym d.0 ∙ f.0, sym d.1 ∙ f.1)
same_ends (Receipt place capacity) a b x y d f = absurd d
same_ends (Delivery place capacity) a b x y d f = absurd d
same_ends (Pool place) a b x y d f = absurd d

follows_on : (elements : List Element) (a b c : ℕ) (xs ys : List (ℕ × ℕ)) → Follows elements a xs b → Follows elements b ys c → Follows elements a (xs ++ ys) c
follows_on elements a b c [] ys f g = subst (λ x. Follows elements x ys c) (sym f) g
follows_on elements a b c (x ∷ xs) ys f g = (f.0, follows_on elements x.1 b c xs ys f.1 g)

-- What leads to the first place of a segment that is passed, and on from its last.
abbrev Passing : List Element → ℕ → ℕ → ℕ → ℕ → Type 0
Passing elements p q x y = (front rest : List (ℕ × ℕ)) × Follows elements p front x × Follows elements y rest q

passing : (elements : List Element) (p q k x y : ℕ) (steps : List (ℕ × ℕ)) → Follows elements p steps q → LeadsTo (get_or elements k (Pool 0)) x y → among (segments steps) k ≡ true → Passing elements p q x y
passing elements p q k x y [] f d e = cc
passing elements p q k x y (s ∷ steps) f d e = go (s.0 == k) refl e (passing elements s.1 q k x y steps f.1 d)
  where
    go : (v : Bool) → (s.0 == k) ≡ v → (v || among (segments steps) k) ≡ true → (among (segments steps) k ≡ true → Passing elements s.1 q x y) → Passing elements p q x y
    go true same found on =
        let here : LeadsTo (get_or elements k (Pool 0)) p s.1 = subst (λ i. LeadsTo (get_or elements i (Pool 0)) p s.1) (eqb-true s.0 k same) f.0 in
        let ends = same_ends (get_or elements k (Pool 0)) p s.1 x y here d in
        ([], steps, ends.0, subst (λ z. Follows elements z steps q) ends.1 f.1)
    go false other found on =
        let later = on found in
        (s ∷ later.0, later.1, (f.0, later.2), later.3)

both : (u v : Bool) → (u && v) ≡ true → (u ≡ true) × (v ≡ true)
both true v e = (refl, e)
both false v e = cc

-- The last segment of a route that lies on the primary one is passed there too.
ending : (elements : List Element) (p q a b : ℕ) (primary : List (ℕ × ℕ)) (s : ℕ × ℕ) (steps : List (ℕ × ℕ))
    → Follows elements p primary q → Follows elements a (s ∷ steps) b → lies_on (segments primary) (segments (s ∷ steps)) ≡ true → (rest : List (ℕ × ℕ)) × Follows elements b rest q
ending elements p q a b primary s [] f d e =
    let on = both (among (segments primary) s.0) true e in
    let at : LeadsTo (get_or elements s.0 (Pool 0)) a b = subst (LeadsTo (get_or elements s.0 (Pool 0)) a) d.1 d.0 in
    let way = passing elements p q s.0 a b primary f at on.0 in
    (way.1, way.3)
ending elements p q a b primary s (t ∷ steps) f d e = ending elements p q s.1 b primary t steps f d.1 (both (among (segments primary) s.0) (lies_on (segments primary) (segments (t ∷ steps))) e).1

starting : (elements : List Element) (p q a b : ℕ) (primary : List (ℕ × ℕ)) (s : ℕ × ℕ) (steps : List (ℕ × ℕ))
    → Follows elements p primary q → Follows elements a (s ∷ steps) b → lies_on (segments primary) (segments (s ∷ steps)) ≡ true → (front : List (ℕ × ℕ)) × Follows elements p front a
starting elements p q a b primary s steps f d e =
    let way = passing elements p q s.0 a s.1 primary f d.0 (both (among (segments primary) s.0) (lies_on (segments primary) (segments steps)) e).0 in
    (way.0, way.2)

-- what stands in the middle of a route lies on it
or_true : (u v : Bool) → v ≡ true → (u || v) ≡ true
or_true true v e = refl
or_true false v e = e

any_more : (front xs back : List ℕ) (k : ℕ) → among xs k ≡ true → among (front ++ (xs ++ back)) k ≡ true
any_more front xs back k e =
    list_any-append (λ s. s == k) front (xs ++ back) ∙ or_true (among front k) (among (xs ++ back) k) (list_any-append (λ s. s == k) xs back ∙ ap (λ v. v || among back k) e)

all_true : (test : ℕ → Bool) (xs : List ℕ) → ((k : ℕ) → among xs k ≡ true → test k ≡ true) → list_all test xs ≡ true
all_true test [] h = refl
all_true test (x ∷ xs) h =
    rw (h x (ap (λ v. v || among xs x) (eq-eqb x x refl))) (all_true test xs (λ k e. h k (or_true (x == k) (among xs k) e)))

middle_lies : (front xs back : List ℕ) → lies_on (front ++ (xs ++ back)) xs ≡ true
middle_lies front xs back = all_true (λ k. among (front ++ (xs ++ back)) k) xs (λ k e. any_more front xs back k e)

segments_on : (xs ys : List (ℕ × ℕ)) → segments (xs ++ ys) ≡ segments xs ++ segments ys
segments_on [] ys = refl
segments_on (x ∷ xs) ys = ap (λ l. x.0 ∷ l) (segments_on xs ys)

module _ (n : ℕ) (elements : List Element) (g : IsGrown n elements) where
  abbrev steps_of : ℕ → ℕ → List (ℕ × ℕ)
  steps_of a b = walk_of elements n a b

  -- gas that flows over both places flows along the route between them
  over : (p q a b : ℕ) → p ≤ n → q ≤ n → Runs elements n p a → Runs elements n a b → Runs elements n b q → lies_on (route_of elements n p q) (route_of elements n a b) ≡ true
  over p q a b h k i r j =
      let whole : steps_of p a ++ (steps_of a b ++ steps_of b q) ≡ steps_of p q =
      follows_is n elements g p q (steps_of p a ++ (steps_of a b ++ steps_of b q)) h k
      (follows_on elements p a q (steps_of p a) (steps_of a b ++ steps_of b q) i (follows_on elements a b q (steps_of a b) (steps_of b q) r j)) in
      let parts : route_of elements n p q ≡ route_of elements n p a ++ (route_of elements n a b ++ route_of elements n b q) =
      ap segments (sym whole) ∙ segments_on (steps_of p a) (steps_of a b ++ steps_of b q) ∙ ap (λ l. route_of elements n p a ++ l) (segments_on (steps_of a b) (steps_of b q)) in
      ap (λ l. lies_on l (route_of elements n a b)) parts ∙ middle_lies (route_of elements n p a) (route_of elements n a b) (route_of elements n b q)

  -- and the other way round
  lies_over : (p q a b : ℕ) (steps : List (ℕ × ℕ)) → p ≤ n → q ≤ n → a ≤ n → b ≤ n → Runs elements n p q → Follows elements a steps b → a ≢ b → lies_on (route_of elements n p q) (segments steps) ≡ true
      → Runs elements n p a × Runs elements n b q
  lies_over p q a b [] hp hq ha hb r f d e = absurd (d f)
  lies_over p q a b (s ∷ steps) hp hq ha hb r f d e =
      let front = starting elements p q a b (steps_of p q) s steps r f e in
      let rest = ending elements p q a b (steps_of p q) s steps r f e in
      (follows_runs n elements g p a front.0 hp ha front.1, follows_runs n elements g b q rest.0 hb hq rest.1)

  -- The test by ends: a route to another place lies on the primary route exactly if gas can flow from the primary origin to its first place, and on from its last to the primary destination.
  pub lies_by_ends : (p q a b : ℕ) → p ≤ n → q ≤ n → a ≤ n → b ≤ n → has_route elements n p q ≡ true → has_route elements n a b ≡ true → a ≢ b
      → lies_on (route_of elements n p q) (route_of elements n a b) ≡ (has_route elements n p a && has_route elements n b q)
  lies_by_ends p q a b hp hq ha hb r f d =
      go (lies_on (route_of elements n p q) (route_of elements n a b)) refl (has_route elements n p a) refl (has_route elements n b q) refl
    where
      run : Runs elements n a b
      run = runs_so elements n a b g ha hb f

      go : (v : Bool) → lies_on (route_of elements n p q) (route_of elements n a b) ≡ v → (w : Bool) → has_route elements n p a ≡ w → (u : Bool) → has_route elements n b q ≡ u → v ≡ (w && u)
      go true e w i u j =
          let way = lies_over p q a b (steps_of a b) hp hq ha hb (runs_so elements n p q g hp hq r) run d e in
          let one : w ≡ true = sym i ∙ runs_yes elements n p a way.0 in
          let two : u ≡ true = sym j ∙ runs_yes elements n b q way.1 in
          rw (one, two) refl
      go false e true i true j = sym e ∙ over p q a b hp hq (runs_so elements n p a g hp ha i) run (runs_so elements n b q g hb hq j)
      go false e true i false j = refl
      go false e false i u j = refl

  -- At one place no segment is passed.
  pub lies_at_once : (p q a b : ℕ) → b ≤ n → a ≡ b → lies_on (route_of elements n p q) (route_of elements n a b) ≡ true
  lies_at_once p q a b h e = ap (lies_on (route_of elements n p q)) (route_same elements n a b e h)
