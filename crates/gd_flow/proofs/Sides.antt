-- The cut of marked nodes has the places, points and pools whose nodes are marked.
use Rattle.std.proofs.Common.{◌≡◌, ℕ, ◌+◌, ◌-◌, ◌<◌, ◌≤◌, List, ◌++◌, length, get_or, replicate, sym, ◌∙◌, ap, subst, arith, inl, inr, Bool, false}
use Rattle.std.proofs.lemmas.Bool.{cases_lt}
use Rattle.std.proofs.lemmas.List.{length-replicate, get_or-append_right, get_or_append_left}
use Rattle.gd_rules.specs.Question.{Element, Question, element}
use Rattle.gd_rules.specs.Question.Element.{Segment, Receipt, Delivery, Pool}
use Rattle.gd_rules.specs.Cut.{has_place, has_end}
use Rattle.gd_system.specs.Pipeline.{Pipeline}
use Rattle.gd_question.specs.Nodes.{end_node}
use Rattle.gd_network.specs.Flow.{ElementAgrees, IsSideOf, IsOrdered}
use Rattle.gd_certificate.specs.Cutting.{Members, side_of}

module _ (p : Pipeline) (marks : List Bool) (cut : Members) (n : ℕ) (places : (k : ℕ) → k < length p.tree + 1 → get_or cut.places k false ≡ get_or marks k false)
    (count : length cut.points ≡ length p.points) (points : (k : ℕ) → k < length p.points → get_or cut.points k false ≡ get_or marks (length p.tree + 1 + k) false)
    (pools : (k : ℕ) → k < length p.pools → get_or cut.pools k false ≡ get_or marks (length p.tree + 1 + length p.points + k) false)
    (all : n ≤ length p.tree + length p.points + length p.pools) where
  place_in : (k : ℕ) → k ≤ length p.tree → has_place (side_of p cut) k ≡ get_or marks k false
  place_in k h = places k (omega arith)

  end_in : (e : ℕ) → length p.tree ≤ e → e < n → has_end (side_of p cut) e ≡ get_or marks (end_node e) false
  end_in e h g =
      get_or-append_right (replicate (length p.tree) false) (cut.points ++ cut.pools) (length p.tree) e false (length-replicate (length p.tree) false) h
      ∙ elim (cases_lt (e - length p.tree) (length p.points)) [
        | inl k ↦
            get_or_append_left cut.points cut.pools false (e - length p.tree) (subst (λ m. e - length p.tree < m) (sym count) k)
            ∙ points (e - length p.tree) k
            ∙ ap (λ v. get_or marks v false) (omega (arith, h))
        | inr k ↦
            get_or-append_right cut.points cut.pools (length p.points) (e - length p.tree) false count k
            ∙ pools (e - length p.tree - length p.points) (omega (arith, h, g, k, all))
            ∙ ap (λ v. get_or marks v false) (omega (arith, h, k))
      ]

  pub side_is : (q : Question) → length q.elements ≡ n → ((e : ℕ) → e < length q.elements → IsOrdered (length p.tree) e (element q e)) → IsSideOf q (λ v. get_or marks v false) (side_of p cut)
  side_is q size order e h = by_element (element q e) (order e h)
    where
      by_element : (x : Element) → IsOrdered (length p.tree) e x → ElementAgrees (side_of p cut) (λ v. get_or marks v false) e x
      by_element (Segment from to capacity) k = (place_in from k.0, place_in to k.1)
      by_element (Receipt place capacity) k = (end_in e k.0 (omega (arith, h, size)), place_in place k.1)
      by_element (Delivery place capacity) k = (end_in e k.0 (omega (arith, h, size)), place_in place k.1)
      by_element (Pool place) k = end_in e k (omega (arith, h, size))
