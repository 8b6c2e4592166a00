-- The arcs at a node.
use Rattle.std.proofs.Common.{◌≡◌, ℕ, zero, suc, ◌<◌, List, [], ◌∷◌, length, get_or, refl, sym, ◌∙◌, ap, subst, arith, Bool, true, false, cond, eq-eqb}
use Rattle.std.specs.Prelude.{◌==◌, ◌||◌}
use Rattle.std.specs.List.{filter, range_with_len, All}
use Rattle.std.proofs.lemmas.Bool.{false≢true}
use Rattle.std.proofs.lemmas.List.Elements.{All-filter}
use Rattle.std.proofs.lemmas.List.FromFn.{get_or-range_with_len, length-range_with_len}
use Rattle.gd_network.specs.Arcs.{Net, arc_at, from_at, to_at}
use Rattle.gd_network.specs.Beginning.{AreSound}
use Rattle.gd_network.specs.Links.{touches, links_of}
use Rattle.gd_network.specs.declared.walks.Step.{Step}
use Rattle.gd_network.specs.Steps.{tail_of, head_of}

-- they are arcs of the network
pub links_within : (n : Net) (node k : ℕ) → k < length (links_of n node) → get_or (links_of n node) k 0 < length n
links_within n node k h = All-filter (λ a. touches (arc_at n a) node) (λ a. a < length n) (range_with_len 0 (length n)) in_range k 0 h
  where
    in_range : All (λ a. a < length n) (range_with_len 0 (length n))
    in_range i d g = let g' : i < length n = subst (λ m. i < m) (length-range_with_len 0 (length n)) g in subst (λ a. a < length n) (sym (get_or-range_with_len 0 (length n) i d g')) (omega arith)

filter_keeps : (p : ℕ → Bool) (xs : List ℕ) (k : ℕ) → k < length xs → p (get_or xs k 0) ≡ true → (j : ℕ) × (j < length (filter p xs)) × (get_or (filter p xs) j 0 ≡ get_or xs k 0)
filter_keeps p [] k h e = absurd (omega arith)
filter_keeps p (x ∷ xs) k h e = by_test (p x) refl k h e (λ i. filter_keeps p xs i)
  where
    by_test : (b : Bool) → p x ≡ b → (i : ℕ) → i < suc (length xs) → p (get_or (x ∷ xs) i 0) ≡ true
        → ((i : ℕ) → i < length xs → p (get_or xs i 0) ≡ true → (j : ℕ) × (j < length (filter p xs)) × (get_or (filter p xs) j 0 ≡ get_or xs i 0))
        → (j : ℕ) × (j < length (cond b (x ∷ filter p xs) (filter p xs))) × (get_or (cond b (x ∷ filter p xs) (filter p xs)) j 0 ≡ get_or (x ∷ xs) i 0)
    by_test true q zero g t rest = (0, omega arith, refl)
    by_test true q (suc i) g t rest = let r = rest i (omega arith) t in (suc r.0, (let w : r.0 < length (filter p xs) = r.1 in omega arith), r.2)
    by_test false q zero g t rest = absurd (false≢true (sym q ∙ t))
    by_test false q (suc i) g t rest = rest i (omega arith) t

or_true : (b : Bool) → (b || true) ≡ true
or_true true = refl
or_true false = refl

true_or : (b : Bool) → (true || b) ≡ true
true_or true = refl
true_or false = refl

starts_touch : (n : Net) (step : Step) (node : ℕ) → tail_of n step ≡ node → touches (arc_at n step.arc) node ≡ true
starts_touch n step node starts = by_way step.back refl
  where
    by_way : (b : Bool) → step.back ≡ b → touches (arc_at n step.arc) node ≡ true
    by_way true e = ap (λ t. (from_at n step.arc == node) || t) (eq-eqb (to_at n step.arc) node (subst (λ b. cond b (to_at n step.arc) (from_at n step.arc) ≡ node) e starts)) ∙ or_true (from_at n step.arc == node)
    by_way false e = ap (λ t. t || (to_at n step.arc == node)) (eq-eqb (from_at n step.arc) node (subst (λ b. cond b (to_at n step.arc) (from_at n step.arc) ≡ node) e starts)) ∙ true_or (to_at n step.arc == node)

-- and all those of steps from the node
pub links_all : (n : Net) (node : ℕ) (step : Step) → step.arc < length n → tail_of n step ≡ node → (j : ℕ) × (j < length (links_of n node)) × (get_or (links_of n node) j 0 ≡ step.arc)
links_all n node step h starts =
    let all : List ℕ = range_with_len 0 (length n) in
    let in_all : step.arc < length all = subst (λ m. step.arc < m) (sym (length-range_with_len 0 (length n))) h in
    let e : get_or all step.arc 0 ≡ step.arc = get_or-range_with_len 0 (length n) step.arc 0 h ∙ omega arith in
    let r = filter_keeps (λ a. touches (arc_at n a) node) all step.arc in_all (subst (λ a. touches (arc_at n a) node ≡ true) (sym e) (starts_touch n step node starts)) in
    (r.0, r.1, r.2 ∙ e)

-- the nodes of a step are nodes of the network
pub head_within : (nodes : ℕ) (n : Net) (step : Step) → AreSound nodes n → step.arc < length n → head_of n step < nodes
head_within nodes n step sound h = by_way step.back
  where
    by_way : (b : Bool) → cond b (from_at n step.arc) (to_at n step.arc) < nodes
    by_way true = sound.from step.arc h
    by_way false = sound.to step.arc h

pub tail_within : (nodes : ℕ) (n : Net) (step : Step) → AreSound nodes n → step.arc < length n → tail_of n step < nodes
tail_within nodes n step sound h = by_way step.back
  where
    by_way : (b : Bool) → cond b (to_at n step.arc) (from_at n step.arc) < nodes
    by_way true = sound.to step.arc h
    by_way false = sound.from step.arc h

-- what holds of both steps of an arc holds of each step of it
pub both_ways : (P : Step → Type 0) (step : Step) (a : ℕ) → step.arc ≡ a → P (record { arc = a; back = false }) → P (record { arc = a; back = true }) → P step
both_ways P step a e along back = subst (λ k. P (record { arc = k; back = step.back })) (sym e) (by_way step.back)
  where
    by_way : (b : Bool) → P (record { arc = a; back = b })
    by_way true = back
    by_way false = along
