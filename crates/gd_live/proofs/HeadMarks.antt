-- A byte order mark is dropped at the head of a text alone.
use Rattle.std.proofs.Common.{◌≡◌, ◌≢◌, ℕ, ◌==◌, Bool, true, false, List, [], ◌∷◌, ◌++◌, refl, ap, subst, if◌then◌else◌, inl, inr}
use Rattle.std.proofs.lemmas.Bool.{cases_Bool, eqb-true}
use Rattle.csv.specs.Reading.{strip_bom, is_bom}
use Rattle.csv.specs.declared.parser.State.TheVariants as st
use Rattle.gd_live.specs.TextLines.{Left, IsClosed}

chosen : (b : Bool) (xs ys more : List ℕ) → (if b then xs ++ more else ys ++ more) ≡ (if b then xs else ys) ++ more
chosen true xs ys more = refl
chosen false xs ys more = refl

apart : st.InField ≡ st.StartRecord → ⊥
apart e = absurd cc

-- the front of a mark leaves a field at hand
mark_1 : ¬ IsClosed (239 ∷ [])
mark_1 e = apart (ap (λ (l : Left). l.0) e)

mark_2 : ¬ IsClosed (239 ∷ 187 ∷ [])
mark_2 e = apart (ap (λ (l : Left). l.0) e)

-- no mark begins with bytes that are closed
no_mark : (a : ℕ) → IsClosed (a ∷ []) → (a == 239) ≡ false
no_mark a closed = elim (cases_Bool (a == 239)) [
  | inl is ↦ absurd (mark_1 (subst (λ (x : ℕ). IsClosed (x ∷ [])) (eqb-true a 239 is) closed))
  | inr other ↦ other
]

no_mark_2 : (a b : ℕ) → IsClosed (a ∷ b ∷ []) → (c : ℕ) → is_bom a b c ≡ false
no_mark_2 a b closed c = elim (cases_Bool (a == 239)) [
  | inl is ↦
      let same : a ≡ 239 = eqb-true a 239 is in
      elim (cases_Bool (b == 187)) [
        | inl is_b ↦ absurd (mark_2 (subst (λ (x : ℕ). IsClosed (239 ∷ x ∷ [])) (eqb-true b 187 is_b) (subst (λ (x : ℕ). IsClosed (x ∷ b ∷ [])) same closed)))
        | inr other ↦ rw (is, other) refl
      ]
  | inr other ↦ rw other refl
]

not_chosen : (b : Bool) (xs ys : List ℕ) → b ≡ false → (if b then xs else ys) ≡ ys
not_chosen true xs ys e = absurd cc
not_chosen false xs ys e = refl

pub strip_joins : (text more : List ℕ) → text ≢ [] → IsClosed (strip_bom text) → strip_bom (text ++ more) ≡ strip_bom text ++ more
unfolding strip_bom
strip_joins [] more some closed = absurd (some refl)
strip_joins (a ∷ []) [] some closed = refl
strip_joins (a ∷ []) (b ∷ []) some closed = refl
strip_joins (a ∷ []) (b ∷ c ∷ more) some closed = not_chosen (is_bom a b c) more (a ∷ b ∷ c ∷ more) (rw (no_mark a closed) refl)
strip_joins (a ∷ b ∷ []) [] some closed = refl
strip_joins (a ∷ b ∷ []) (c ∷ more) some closed = not_chosen (is_bom a b c) more (a ∷ b ∷ c ∷ more) (no_mark_2 a b closed c)
strip_joins (a ∷ b ∷ c ∷ text) more some closed = chosen (is_bom a b c) text (a ∷ b ∷ c ∷ text) more
