-- What a line's arcs carry together.
use Rattle.std.proofs.Common.{◌≡◌, ℕ, ◌+◌, ◌*◌, ◌<◌, ◌≤◌, List, [], ◌∷◌, ◌++◌, length, get_or, refl, sym, ap, ◌∙◌, subst, arith, add-one, inl, inr}
use Rattle.std.specs.Prelude.{ℤ, pos, ◌+ℤ◌}
use Rattle.gd_scale.specs.Sum.{sum_int}
use Rattle.std.proofs.lemmas.Bool.{cases_lt}
use Rattle.std.proofs.lemmas.List.{length-append, get_or_append_left, get_or_push}
use Rattle.gd_rules.specs.Question.{Question}
use Rattle.gd_network.specs.Arcs.{tenth_arc}
use Rattle.gd_network.specs.Flow.{flow_at, IsScheduleOf}

-- what the first j arcs from this one on carry
pub record IsSum (flow : List ℤ) (elements line j n : ℕ) : Type 0 where
  pub is : pos n ≡ sum_int j (λ k. flow_at flow (elements + (10 * line + k)))
  pub small : n ≤ j * 1000000000

pub sum_more : (flow : List ℤ) (elements line j n m : ℕ) → IsSum flow elements line j n → pos m ≡ flow_at flow (elements + (10 * line + j)) → m ≤ 1000000000 → IsSum flow elements line (j + 1) (n + m)
sum_more flow elements line j n m h e k = record {
  is = subst (λ z. pos (n + m) ≡ sum_int z (λ k. flow_at flow (elements + (10 * line + k)))) (sym (add-one j))
      (ap (λ z. z +ℤ pos m) h.is ∙ ap (λ z. sum_int j (λ k. flow_at flow (elements + (10 * line + k))) +ℤ z) e);
  small = omega (arith, h.small, k);
}

-- the schedule of the first i lines
pub record Summed (q : Question) (flow : List ℤ) (i : ℕ) (xs : List ℕ) : Type 0 where
  pub size : length xs ≡ i
  pub sums : (k : ℕ) → k < i → pos (get_or xs k 0) ≡ sum_int 10 (λ j. flow_at flow (tenth_arc q k j))

pub summed_none : (q : Question) (flow : List ℤ) → Summed q flow 0 []
summed_none q flow = record { size = refl; sums = λ k h. absurd (omega arith) }

pub summed_more : (q : Question) (flow : List ℤ) (i : ℕ) (xs : List ℕ) (n : ℕ) → Summed q flow i xs → pos n ≡ sum_int 10 (λ j. flow_at flow (tenth_arc q i j)) → Summed q flow (i + 1) (xs ++ n ∷ [])
summed_more q flow i xs n h s = record {
  size = length-append xs (n ∷ []) ∙ ap (λ k. k + 1) h.size;
  sums = λ k g. elim (cases_lt k i) [
    | inl m ↦ ap pos (get_or_append_left xs (n ∷ []) 0 k (subst (λ b. k < b) (sym h.size) m)) ∙ h.sums k m
    | inr m ↦ let same : i ≡ k = omega arith in ap pos (get_or_push xs n 0 k (h.size ∙ same)) ∙ s ∙ ap (λ m. sum_int 10 (λ j. flow_at flow (tenth_arc q m j))) same
  ];
}

pub summed_all : (q : Question) (flow : List ℤ) (xs : List ℕ) → Summed q flow (length q.lines) xs → IsScheduleOf q flow xs
summed_all q flow xs h = record { shape = h.size; sums = h.sums }
