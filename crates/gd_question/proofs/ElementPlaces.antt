-- Other capacities leave the elements where they stand.
use Rattle.std.proofs.Common.{◌≡◌, ℕ, ◌<◌, ◌≤◌, List, length, get_or, refl, sym, ◌∙◌, subst, arith, add-one, inl, inr}
use Rattle.std.proofs.lemmas.Bool.{cases_lt}
use Rattle.gd_rules.specs.Question as rules
use Rattle.gd_rules.specs.Question.Element.{Segment, Receipt, Delivery, Pool}
use Rattle.gd_tree.specs.Grown.{Joins, IsNoSegment, IsGrown}
use Rattle.gd_system.specs.Pipeline.{Pipeline, elements_of}
use Rattle.gd_system.specs.Known.{IsSystem}
use Rattle.gd_question.specs.InForce.{with_limit, in_force}
use Rattle.gd_rules.specs.Question.{place_of}
use Rattle.gd_question.specs.Nodes.{Brings}
use Rattle.gd_question.specs.Placing.{IsPlaced}
use Rattle.gd_question.proofs.InForceLemmas.{Alike, alike, length-in_force, place-alike}
use Rattle.gd_question.proofs.Limits.{length-elements}

over : (X Y : Type 0) → X ≡ Y → X → Y
over X Y e x = subst (λ (T : Type 0). T) e x

joins_kept : (k : ℕ) (e : rules.Element) → Joins k (with_limit e 0) ≡ Joins k e
joins_kept k (Segment from to capacity) = refl
joins_kept k (Receipt place capacity) = refl
joins_kept k (Delivery place capacity) = refl
joins_kept k (Pool place) = refl

none_kept : (e : rules.Element) → IsNoSegment (with_limit e 0) ≡ IsNoSegment e
none_kept (Segment from to capacity) = refl
none_kept (Receipt place capacity) = refl
none_kept (Delivery place capacity) = refl
none_kept (Pool place) = refl

joins-alike : (k : ℕ) (a b : rules.Element) → Alike a b → Joins k b → Joins k a
joins-alike k a b h s = over (Joins k (with_limit a 0)) (Joins k a) (joins_kept k a) (subst (Joins k) (sym h) (over (Joins k b) (Joins k (with_limit b 0)) (sym (joins_kept k b)) s))

none-alike : (a b : rules.Element) → Alike a b → IsNoSegment b → IsNoSegment a
none-alike a b h s = over (IsNoSegment (with_limit a 0)) (IsNoSegment a) (none_kept a) (subst IsNoSegment (sym h) (over (IsNoSegment b) (IsNoSegment (with_limit b 0)) (sym (none_kept b)) s))

-- Each element brings one node, as the pipeline grew.
segment_brings : (k : ℕ) (e : rules.Element) → Joins k e → Brings k e
segment_brings k (Segment from to capacity) (inl h) = inr (h.0 ∙ sym (add-one k), h.1)
segment_brings k (Segment from to capacity) (inr h) = inl (h.0 ∙ sym (add-one k), h.1)
segment_brings k (Receipt place capacity) h = absurd h
segment_brings k (Delivery place capacity) h = absurd h
segment_brings k (Pool place) h = absurd h

other_brings : (k s : ℕ) (e : rules.Element) → IsNoSegment e → s ≤ k → place_of e ≤ s → Brings k e
other_brings k s (Segment from to capacity) h g p = absurd h
other_brings k s (Receipt place capacity) h g p = omega arith
other_brings k s (Delivery place capacity) h g p = omega arith
other_brings k s (Pool place) h g p = omega arith

brings : (s : ℕ) (elements : List rules.Element) → IsGrown s elements → ((e : ℕ) → e < length elements → place_of (get_or elements e (Pool 0)) ≤ s) → (e : ℕ) → e < length elements → Brings e (get_or elements e (Pool 0))
brings s elements grown hung e h = elim (cases_lt e s) [
  | inl g ↦ segment_brings e (get_or elements e (Pool 0)) (grown.joins e g)
  | inr g ↦ other_brings e s (get_or elements e (Pool 0)) (grown.others e g) g (hung e h)
]

pub is_placed : (p : Pipeline) (limits : List ℕ) (lines : List rules.Line) → IsSystem p → IsPlaced p (record { elements = in_force (elements_of p) limits; lines = lines })
is_placed p limits lines s = record {
  grown = grown;
  few_segments = s.few_segments;
  first = (let same = length-in_force (elements_of p) limits in let parts = length-elements p in omega (arith, same, parts));
  brings = brings (length p.tree) (in_force (elements_of p) limits) grown hung;
  hung = hung;
}
  where
    grown : IsGrown (length p.tree) (in_force (elements_of p) limits)
    grown = record {
      joins = λ k h. joins-alike k _ _ (alike (elements_of p) limits k) (s.grown.joins k h);
      others = λ k h. none-alike _ _ (alike (elements_of p) limits k) (s.grown.others k h);
    }

    hung : (e : ℕ) → e < length (in_force (elements_of p) limits) → place_of (get_or (in_force (elements_of p) limits) e (Pool 0)) ≤ length p.tree
    hung e h = subst (λ place. place ≤ length p.tree) (sym (place-alike _ _ (alike (elements_of p) limits e))) (s.hung e (subst (λ n. e < n) (length-in_force (elements_of p) limits) h))
