-- What is made of a pipeline with a segment.
use Rattle.std.proofs.Common.{◌≡◌, ℕ, suc, ◌+◌, ◌<◌, ◌≤◌, Bool, true, false, List, ◌++◌, length, map, get_or, refl, sym, subst, ◌∙◌, arith, inl, inr, append_assoc, add-one}
use Rattle.std.specs.Prelude.{if◌then◌else◌, ◌==◌, ◌⊎◌, All}
use Rattle.std.proofs.lemmas.Bool.{eqb-true}
use Rattle.std.proofs.lemmas.List.{get_or_past}
use Rattle.std.proofs.lemmas.List.Elements.{All-append, All-map, All-from_get_or}
use Rattle.gd_rules.specs.Question.{Element, place_of}
use Rattle.gd_rules.specs.Question.Element.{Segment, Receipt, Delivery, Pool}
use Rattle.gd_rules.specs.Tree.{IsTree}
use Rattle.gd_tree.specs.Grown.{IsGrown, IsNoSegment, Joins}
use Rattle.gd_tree.proofs.Grown.{below_or, tree}
use Rattle.gd_tree.proofs.Agreement.{grown_with}
use Rattle.gd_system.specs.Pipeline.{Pipeline, elements_of, point_element}
use Rattle.gd_system.specs.Known.{IsSystem}
use Rattle.gd_system.specs.Growing.{IsBuilt}
use Rattle.gd_units.specs.declared.service.Kind.{Kind}
use Rattle.gd_units.specs.declared.service.Kind.TheVariants as kind

-- the points and pools
abbrev pub hangers : Pipeline → List Element
hangers p = map (λ e. point_element e.1.kind e.1.place.0 e.1.capacity) p.points ++ map (λ e. Pool e.1.place.0) p.pools

pub elements_are : (p : Pipeline) → elements_of p ≡ p.tree ++ hangers p
elements_are p = append_assoc p.tree (map (λ e. point_element e.1.kind e.1.place.0 e.1.capacity) p.points) (map (λ e. Pool e.1.place.0) p.pools)

point_none : (k : Kind) (place capacity : ℕ) → IsNoSegment (point_element k place capacity)
point_none kind.Receipt place capacity = tt
point_none kind.Delivery place capacity = tt

point_place : (k : Kind) (place capacity : ℕ) → place_of (point_element k place capacity) ≡ place
point_place kind.Receipt place capacity = refl
point_place kind.Delivery place capacity = refl

-- points and pools are no segments
pub no_segments : (p : Pipeline) (k : ℕ) → IsNoSegment (get_or (hangers p) k (Pool 0))
no_segments p k = go (below_or k (length (hangers p)))
  where
    all : All IsNoSegment (hangers p)
    all = All-append IsNoSegment _ _
        (All-map IsNoSegment (λ e. point_element e.1.kind e.1.place.0 e.1.capacity) p.points (λ i d h. let e = get_or p.points i d in point_none e.1.kind e.1.place.0 e.1.capacity))
        (All-map IsNoSegment (λ e. Pool e.1.place.0) p.pools (λ i d h. tt))

    go : (k < length (hangers p)) ⊎ (length (hangers p) ≤ k) → IsNoSegment (get_or (hangers p) k (Pool 0))
    go (inl h) = all k (Pool 0) h
    go (inr h) = subst IsNoSegment (sym (get_or_past (hangers p) k (Pool 0) h)) tt

joins_place : (k : ℕ) (e : Element) → Joins k e → place_of e ≤ suc k
joins_place k (Segment from to capacity) (inl j) = omega arith
joins_place k (Segment from to capacity) (inr j) = omega arith
joins_place k (Receipt place capacity) j = absurd j
joins_place k (Delivery place capacity) j = absurd j
joins_place k (Pool place) j = absurd j

all_hung : (p : Pipeline) (n : ℕ) → IsGrown (length p.tree) p.tree → length p.tree ≤ n → All (λ e. e.1.place.0 ≤ n) p.points → All (λ e. e.1.place.0 ≤ n) p.pools → All (λ e. place_of e ≤ n) (elements_of p)
all_hung p n g h points pools =
    All-append (λ e. place_of e ≤ n) _ _
    (All-append (λ e. place_of e ≤ n) p.tree _
    (All-from_get_or (λ e. place_of e ≤ n) p.tree (Pool 0) (λ i w. let j = joins_place i (get_or p.tree i (Pool 0)) (g.joins i w) in omega (arith, j)))
    (All-map (λ e. place_of e ≤ n) (λ e. point_element e.1.kind e.1.place.0 e.1.capacity) p.points
    (λ i d w. let e = get_or p.points i d in subst (λ x. x ≤ n) (sym (point_place e.1.kind e.1.place.0 e.1.capacity)) (points i d w))))
    (All-map (λ e. place_of e ≤ n) (λ e. Pool e.1.place.0) p.pools pools)

-- a pipeline in the making with a segment is a system
pub system_of : (p : Pipeline) → IsBuilt p → IsGrown (length p.tree) p.tree → 0 < length p.tree → IsSystem p
system_of p b g h =
    let placed : length p.places ≡ length p.tree + 1 = go (length p.tree == 0) refl b.placed in
    record {
      grown = subst (IsGrown (length p.tree)) (sym (elements_are p)) (grown_with p.tree (hangers p) g (no_segments p));
      some = h;
      few_segments = b.few_segments;
      placed = placed;
      named = b.named;
      few_points = b.few_points;
      few_pools = b.few_pools;
      hung = λ e w.
          all_hung p (length p.tree) g (omega arith)
          (λ k d i. let hangs = b.points_hung k d i in omega (arith, hangs))
          (λ k d i. let hangs = b.pools_hung k d i in omega (arith, hangs))
          e (Pool 0) w;
    }
  where
    go : (v : Bool) → (length p.tree == 0) ≡ v → length p.places ≡ (if v then 0 else length p.tree + 1) → length p.places ≡ length p.tree + 1
    go true e i = let none : length p.tree ≡ 0 = eqb-true (length p.tree) 0 e in absurd (omega arith)
    go false e i = i

-- its places form a tree
pub system_tree : (p : Pipeline) → IsSystem p → IsTree (length p.places) (elements_of p)
system_tree p s = subst (λ n. IsTree n (elements_of p)) (sym (s.placed ∙ add-one (length p.tree))) (tree (length p.tree) (elements_of p) s.grown)
