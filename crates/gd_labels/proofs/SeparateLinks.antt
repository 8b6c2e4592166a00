-- Links to nodes to which the rest of a walk does not lead.
use Rattle.std.proofs.Common.{◌≡◌, ◌≢◌, ℕ, ◌<◌, ◌≤◌, List, [], ◌∷◌, ◌++◌, length, refl, sym, ◌∙◌, ap, subst, arith, get_or, eqb, below_more, zero, suc}
use Rattle.std.proofs.lemmas.List.{get_or_push, length-append}
use Rattle.std.proofs.Math.ListN.{get_or-append}
use Rattle.std.specs.List.{IsDistinct}
use Rattle.std.proofs.lemmas.Bool.{eqb-false}
use Rattle.gd_labels.specs.Links.{node_at, EndsOnce}
use Rattle.gd_labels.specs.Events.{Chain, NotIn}

-- The first link taken leads to `end`, the others to nodes to which the rest of the walk, up to the event, does not lead.
pub record IsApart (node before : List ℕ) (count : ℕ) (to taken : List ℕ) (event end : ℕ) : Type 0 where
  pub begun : 0 < length taken
  pub first : node_at to (get_or taken 0 0) ≡ end
  pub rest : (us : List ℕ) × Chain node before count event us × IsDistinct eqb us × ((k : ℕ) → 0 < k → k < length taken → NotIn (node_at to (get_or taken k 0)) us)
  pub once : EndsOnce to taken

by_zero : {P : Type 0} (n : ℕ) → (n ≡ 0 → P) → (0 < n → P) → P
by_zero zero a b = a refl
by_zero (suc n) a b = b (omega arith)

apart_rest : (node before : List ℕ) (count event v : ℕ) (us : List ℕ) → count ≤ event → node_at node event ≡ v → Chain node before count event us → IsDistinct eqb us →
    (vs : List ℕ) × (us ≡ v ∷ vs) × Chain node before count (get_or before event 0) vs × NotIn v vs × IsDistinct eqb vs
unfolding IsDistinct
apart_rest node before count event v [] high at c d = absurd c
apart_rest node before count event v (x ∷ []) high at c d = let low : event < count = c.0 in absurd (omega arith)
apart_rest node before count event v (x ∷ (u ∷ us)) high at c d =
    let same : x ≡ v = sym c.1 ∙ at in
    (u ∷ us, ap (λ (y : ℕ). y ∷ (u ∷ us)) same, c.2, (let P : ℕ → Type 0 = λ y. NotIn y (u ∷ us) in subst P same (d.0)), d.1)

-- one link back
pub apart_push : (node before : List ℕ) (count : ℕ) (to taken : List ℕ) (event end j earlier : ℕ) → count ≤ event →
    node_at to j ≡ node_at node event → node_at node event ≢ end → get_or before event 0 ≡ earlier →
    IsApart node before count to taken event end → IsApart node before count to (taken ++ j ∷ []) earlier end
apart_push node before count to taken event end j earlier high ends differs back apart =
    let v : ℕ = node_at node event in
    let r = apart.rest in
    let s = apart_rest node before count event v (r.0) high refl (r.1) (r.2) in
    let old : (k : ℕ) → k < length taken → get_or (taken ++ j ∷ []) k 0 ≡ get_or taken k 0 = λ k h. get_or-append taken (j ∷ []) 0 k h in
    let new : node_at to (get_or (taken ++ j ∷ []) (length taken) 0) ≡ v = ap (λ (k : ℕ). node_at to k) (get_or_push taken j 0 (length taken) refl) ∙ ends in
    let hidden : (k : ℕ) → 0 < k → k < length taken → NotIn (node_at to (get_or taken k 0)) (v ∷ s.0) = λ k p h. rw s.1 at (r.3 k p h) in
    let P : ℕ → Type 0 = λ k. 0 < k → NotIn (node_at to (get_or (taken ++ j ∷ []) k 0)) (s.0) in
    let Q : ℕ → Type 0 = λ k. (i : ℕ) → i < k → node_at to (get_or (taken ++ j ∷ []) i 0) ≢ node_at to (get_or (taken ++ j ∷ []) k 0) in
    record {
      begun = rw length-append (omega arith);
      first = rw (old 0 apart.begun) apart.first;
      rest = (
        s.0,
        rw back at (s.2),
        s.4,
        λ k p h. below_more P (length taken)
            (λ i i_in q. rw (old i i_in) ((hidden i q i_in).1)) (λ q. rw new (s.3)) k (rw length-append at h) p,
      );
      once = λ i k low h. below_more Q (length taken)
          (λ m m_in n n_in. rw (old m m_in, old n (omega arith)) (apart.once n m n_in m_in))
          (λ n n_in. rw (new, old n n_in) (by_zero n (λ z. rw (z, apart.first) (λ e. differs (sym e))) (λ q e. eqb-false (node_at to (get_or taken n 0)) v ((hidden n q n_in).0) e)))
          k (rw length-append at h) i low;
    }

-- the walk of one link
pub apart_start : (node before : List ℕ) (count : ℕ) (to : List ℕ) (i event : ℕ) (us : List ℕ) → Chain node before count event us → IsDistinct eqb us →
    IsApart node before count to (i ∷ []) event (node_at to i)
apart_start node before count to i event us c d = record {
  begun = omega arith;
  first = refl;
  rest = (us, c, d, λ k p h. absurd (omega arith));
  once = λ j k low h. absurd (omega arith);
}
