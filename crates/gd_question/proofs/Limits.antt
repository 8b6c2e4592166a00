-- Segments and points have capacities, and stand before the pools, which have none.
use Rattle.std.proofs.Common.{◌≡◌, ℕ, zero, suc, ◌+◌, ◌-◌, ◌<◌, ◌≤◌, List, [], ◌∷◌, ◌++◌, get_or, map, length, refl, sym, ap, ◌∙◌, subst, arith, inl, inr, Some, None, IsSome}
use Rattle.std.specs.Prelude.{◌⊎◌}
use Rattle.std.proofs.lemmas.List.{get_or_append_left, get_or-append_right, length-map, length-append}
use Rattle.gd_rules.specs.Question.{Element}
use Rattle.gd_rules.specs.Question.Element.{Segment, Receipt, Delivery, Pool}
use Rattle.gd_units.specs.declared.service.Kind.{Kind}
use Rattle.gd_units.specs.declared.service.Kind.TheVariants as kind
use Rattle.gd_tree.specs.Grown.{Joins}
use Rattle.gd_tree.proofs.Grown.{below_or}
use Rattle.gd_system.specs.declared.part.Point.{Point}
use Rattle.gd_system.specs.declared.part.Pool as code
use Rattle.gd_system.specs.Pipeline.{Pipeline, elements_of, point_element}
use Rattle.gd_system.specs.Route.{element_at}
use Rattle.gd_system.specs.Known.{IsSystem}
use Rattle.gd_question.specs.InForce.{with_limit, limit_fault, in_force}
use Rattle.gd_question.specs.Known.{limit_of}
use Rattle.gd_question.specs.Stored.{AreOwn}

abbrev pub as_point : List ℕ × Point → Element
as_point e = point_element e.1.kind e.1.place.0 e.1.capacity

abbrev pub as_pool : List ℕ × code.Pool → Element
as_pool e = Pool e.1.place.0

pool_none : (pools : List (List ℕ × code.Pool)) (k : ℕ) → limit_of (get_or (map as_pool pools) k (Pool 0)) ≡ None
pool_none [] k = refl
pool_none (e ∷ pools) zero = refl
pool_none (e ∷ pools) (suc k) = pool_none pools k

kind_some : (k : Kind) (place capacity : ℕ) → IsSome (limit_of (point_element k place capacity))
kind_some kind.Receipt place capacity = refl
kind_some kind.Delivery place capacity = refl

point_some : (points : List (List ℕ × Point)) (k : ℕ) → k < length points → IsSome (limit_of (get_or (map as_point points) k (Pool 0)))
point_some [] k h = absurd (omega arith)
point_some (e ∷ points) zero h = kind_some e.1.kind e.1.place.0 e.1.capacity
point_some (e ∷ points) (suc k) h = point_some points k (omega arith)

joins_some : (k : ℕ) (e : Element) → Joins k e → IsSome (limit_of e)
joins_some k (Segment from to capacity) j = refl
joins_some k (Receipt place capacity) j = absurd j
joins_some k (Delivery place capacity) j = absurd j
joins_some k (Pool place) j = absurd j

front : (p : Pipeline) → length (p.tree ++ map as_point p.points) ≡ length p.tree + length p.points
front p = length-append p.tree (map as_point p.points) ∙ ap (λ n. length p.tree + n) (length-map p.points as_point)

pub length-elements : (p : Pipeline) → length (elements_of p) ≡ length p.tree + length p.points + length p.pools
length-elements p = length-append (p.tree ++ map as_point p.points) (map as_pool p.pools) ∙ (let f = front p in let g = length-map p.pools as_pool in omega (arith, f, g))

-- behind the points there are pools
pub pools_last : (p : Pipeline) (e : ℕ) → length p.tree + length p.points ≤ e → limit_of (element_at p e) ≡ None
pools_last p e h =
    ap limit_of (get_or-append_right (p.tree ++ map as_point p.points) (map as_pool p.pools) (length p.tree + length p.points) e (Pool 0) (front p) h)
    ∙ pool_none p.pools (e - (length p.tree + length p.points))

-- up to there, there are none
pub limits_first : (p : Pipeline) (e : ℕ) → IsSystem p → e < length p.tree + length p.points → IsSome (limit_of (element_at p e))
limits_first p e s h = go (below_or e (length p.tree))
  where
    short : e < length (p.tree ++ map as_point p.points)
    short = let f = front p in omega (arith, f)

    go : (e < length p.tree) ⊎ (length p.tree ≤ e) → IsSome (limit_of (element_at p e))
    go (inl i) = joins_some e (element_at p e) (s.grown.joins e i)
    go (inr i) =
        subst (λ x. IsSome (limit_of x))
        (sym (get_or_append_left (p.tree ++ map as_point p.points) (map as_pool p.pools) (Pool 0) e short ∙ get_or-append_right p.tree (map as_point p.points) (length p.tree) e (Pool 0) refl i))
        (point_some p.points (e - length p.tree) (omega arith))

limit_own : (e : Element) (x : ℕ) → limit_of e ≡ Some x → with_limit e x ≡ e
limit_own (Segment from to capacity) x h = let same : capacity ≡ x = cc in ap (Segment from to) (sym same)
limit_own (Receipt place capacity) x h = let same : capacity ≡ x = cc in ap (Receipt place) (sym same)
limit_own (Delivery place capacity) x h = let same : capacity ≡ x = cc in ap (Delivery place) (sym same)
limit_own (Pool place) x h = refl

own_kept : (elements : List Element) (limits : List ℕ) → ((k : ℕ) → k < length limits → limit_of (get_or elements k (Pool 0)) ≡ Some (get_or limits k 0)) → in_force elements limits ≡ elements
own_kept [] limits h = refl
own_kept (e ∷ elements) [] h = refl
own_kept (e ∷ elements) (x ∷ limits) h =
    ap (λ y. y ∷ in_force elements limits) (limit_own e x (h 0 (omega arith))) ∙ ap (λ l. e ∷ l) (own_kept elements limits (λ k i. h (suc k) (omega arith)))

-- With the pipeline's own capacities its elements are as they are.
pub in_force-own : (p : Pipeline) (limits : List ℕ) → AreOwn p limits → in_force (elements_of p) limits ≡ elements_of p
in_force-own p limits o = own_kept (elements_of p) limits o.own

-- what has a capacity can have another
pub fault_none : (e : Element) → IsSome (limit_of e) → limit_fault e ≡ None
fault_none (Segment from to capacity) h = refl
fault_none (Receipt place capacity) h = refl
fault_none (Delivery place capacity) h = refl
fault_none (Pool place) h = let no : ⊥ = cc in absurd no

pub limit-with_limit : (e : Element) (x : ℕ) → IsSome (limit_of e) → limit_of (with_limit e x) ≡ Some x
limit-with_limit (Segment from to capacity) x h = refl
limit-with_limit (Receipt place capacity) x h = refl
limit-with_limit (Delivery place capacity) x h = refl
limit-with_limit (Pool place) x h = let no : ⊥ = cc in absurd no
