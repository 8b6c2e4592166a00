-- Lists of arcs and of flows while they are built.
use Rattle.std.proofs.Common.{◌≡◌, ℕ, zero, suc, ◌+◌, ◌*◌, ◌<◌, ◌≤◌, List, [], ◌∷◌, ◌++◌, length, get_or, refl, sym, ap, ◌∙◌, subst, arith, inl, inr}
use Rattle.std.specs.Prelude.{ℤ, pos, ◌≤ℤ◌, ◌⊎◌}
use borrow.Author.Differences.{ints}
use Rattle.std.proofs.lemmas.Bool.{cases_lt}
use Rattle.std.proofs.lemmas.List.{length-append, get_or_append_left, get_or_push}
use Rattle.gd_rules.specs.Question.{Question, line, element}
use Rattle.gd_rules.specs.Schedule.{quantity, load}
use Rattle.gd_schedule.specs.Table.{IsTable}
use Rattle.gd_network.specs.declared.arcs.Arc.{Arc}
use Rattle.gd_network.specs.Arcs.{Net, IsNetwork, element_arc, line_arc, tenth_arc, no_arc}
use Rattle.gd_network.specs.Flow.{part_of, IsFlowOf}
use Rattle.gd_network.specs.Entries.{Holds, arc_is, FirstArcs, FirstFlows, by_kind}
use Rattle.gd_network.proofs.Networks.{kind_element, kind_tenth}

pub holds_none : {X : Type 0} (d : X) (f : ℕ → X) → Holds d [] 0 f
holds_none d f = record { size = refl; at = λ k h. absurd (omega arith) }

pub holds_more : {X : Type 0} (d : X) (xs : List X) (n : ℕ) (f : ℕ → X) (x : X) (m : ℕ) → Holds d xs n f → x ≡ f n → m ≡ n + 1 → Holds d (xs ++ x ∷ []) m f
holds_more d xs n f x m h e g = record {
  size = length-append xs (x ∷ []) ∙ ap (λ k. k + 1) h.size ∙ sym g;
  at = λ k i. elim (cases_lt k n) [
    | inl j ↦ get_or_append_left xs (x ∷ []) d k (subst (λ b. k < b) (sym h.size) j) ∙ h.at k j
    | inr j ↦ let same : n ≡ k = omega arith in get_or_push xs x d k (h.size ∙ same) ∙ e ∙ ap f same
  ];
}

-- What holds of all entries and of the default holds of all entries of a list with one more.
pub at_more : {X : Type 0} (P : X → Type 0) (d : X) (xs : List X) (x : X) → ((k : ℕ) → P (get_or xs k d)) → P x → (k : ℕ) → P (get_or (xs ++ x ∷ []) k d)
at_more {X = X} P d xs x h p k = elim (cases_lt k (length xs)) [
  | inl j ↦ subst P (sym (get_or_append_left xs (x ∷ []) d k j)) (h k)
  | inr j ↦ at_last (cases_lt (length xs) k) j
]
  where
    past : (ys : List X) (m : ℕ) → length ys ≤ m → get_or ys m d ≡ d
    past [] m g = refl
    past (y ∷ ys) zero g = absurd (omega arith)
    past (y ∷ ys) (suc m) g = past ys m (omega arith)

    at_last : (length xs < k) ⊎ (k ≤ length xs) → length xs ≤ k → P (get_or (xs ++ x ∷ []) k d)
    at_last (inl g) j =
        let size : length (xs ++ x ∷ []) ≡ length xs + 1 = length-append xs (x ∷ []) in
        subst P (past xs (length xs) (omega arith) ∙ sym (past (xs ++ x ∷ []) k (omega (arith, size)))) (h (length xs))
    at_last (inr g) j = subst P (sym (get_or_push xs x d k (omega arith))) p

pub arcs_none : (q : Question) → FirstArcs q 0 []
arcs_none q = record { held = holds_none no_arc (arc_is q); small = λ a. omega (arith, ints) }

arcs_more : (q : Question) (n m : ℕ) (arcs : Net) (x : Arc) → FirstArcs q n arcs → x ≡ arc_is q n → m ≡ n + 1 → x.upper ≤ℤ pos 1000000000 → FirstArcs q m (arcs ++ x ∷ [])
arcs_more q n m arcs x h e g k = record {
  held = holds_more no_arc arcs n (arc_is q) x m h.held e g;
  small = at_more (λ y. y.upper ≤ℤ pos 1000000000) no_arc arcs x h.small k;
}

-- an element's arc more
pub arcs_element : (q : Question) (e : ℕ) (arcs : Net) (x : Arc) → FirstArcs q e arcs → e < length q.elements → x ≡ element_arc e (element q e) → x.upper ≤ℤ pos 1000000000 → FirstArcs q (e + 1) (arcs ++ x ∷ [])
arcs_element q e arcs x h within is k = arcs_more q e (e + 1) arcs x h (is ∙ sym (kind_element q (λ e. element_arc e (element q e)) (λ i j. line_arc (line q i) j) e within)) refl k

-- an arc of a line more
pub arcs_tenth : (q : Question) (i j : ℕ) (arcs : Net) (x : Arc) → FirstArcs q (tenth_arc q i j) arcs → j < 10 → x ≡ line_arc (line q i) j → x.upper ≤ℤ pos 1000000000 → FirstArcs q (tenth_arc q i (j + 1)) (arcs ++ x ∷ [])
arcs_tenth q i j arcs x h within is k =
    arcs_more q (tenth_arc q i j) (tenth_arc q i (j + 1)) arcs x h (is ∙ sym (kind_tenth q (λ e. element_arc e (element q e)) (λ i j. line_arc (line q i) j) i j within)) (omega arith) k

-- All arcs: the network.
pub arcs_all : (q : Question) (arcs : Net) → FirstArcs q (length q.elements + 10 * length q.lines) arcs → IsNetwork q arcs
arcs_all q arcs h = record {
  size = h.held.size;
  elements = λ e k. h.held.at e (omega arith) ∙ kind_element q (λ e. element_arc e (element q e)) (λ i j. line_arc (line q i) j) e k;
  tenths = λ i j k m. h.held.at (tenth_arc q i j) (omega arith) ∙ kind_tenth q (λ e. element_arc e (element q e)) (λ i j. line_arc (line q i) j) i j m;
}

-- The same for flows.
pub flows_table : (q : Question) (x : List ℕ) (table : List ℤ) → IsTable q x table → FirstFlows q x (length q.elements) table
flows_table q x table t = record {
  size = t.sized;
  at = λ e h. t.is e h ∙ sym (kind_element q (load q x) (λ i j. pos (part_of (line q i).ceiling (quantity x i) j)) e h);
}

pub flows_tenth : (q : Question) (x : List ℕ) (i j : ℕ) (flow : List ℤ) (z : ℤ) → FirstFlows q x (tenth_arc q i j) flow → j < 10 → z ≡ pos (part_of (line q i).ceiling (quantity x i) j) → FirstFlows q x (tenth_arc q i (j + 1)) (flow ++ z ∷ [])
flows_tenth q x i j flow z h within p =
    holds_more (pos 0) flow (tenth_arc q i j) (by_kind q (load q x) (λ i j. pos (part_of (line q i).ceiling (quantity x i) j))) z (tenth_arc q i (j + 1)) h
    (p ∙ sym (kind_tenth q (load q x) (λ i j. pos (part_of (line q i).ceiling (quantity x i) j)) i j within)) (omega arith)

pub flows_all : (q : Question) (x : List ℕ) (flow : List ℤ) → FirstFlows q x (length q.elements + 10 * length q.lines) flow → IsFlowOf q x flow
flows_all q x flow h = record {
  loads = λ e k. h.at e (omega arith) ∙ kind_element q (load q x) (λ i j. pos (part_of (line q i).ceiling (quantity x i) j)) e k;
  parts = λ i j k m. h.at (tenth_arc q i j) (omega arith) ∙ kind_tenth q (load q x) (λ i j. pos (part_of (line q i).ceiling (quantity x i) j)) i j m;
}
