-- One gain more.
use Rattle.std.proofs.Common.{◌≡◌, ℕ, ◌+◌, ◌<◌, List, [], ◌∷◌, ◌++◌, length, map, get_or, Bool, IsTrue, Result, Ok, Err, sym, ap, ◌∙◌, subst, below_more}
use Rattle.std.specs.Prelude.{ℤ, pos, OnOk}
use Rattle.std.proofs.lemmas.List.{length_push, length-map, get_or_append_left, get_or_push, get_or-map, map_push}
use Rattle.gd_scale.specs.Scale.{Scale}
use Rattle.gd_mincost.specs.Gains.{AreGains, gain_at}

module _ {V : Type 0} (s : Scale V) where
  -- what holds of each gain and of one more
  pub each_more : (P : ℕ → V → Type 0) (gains : List V) (k : ℕ) (x : V) → length gains ≡ k → ((a : ℕ) → a < k → P a (gain_at s gains a)) → P k x → (a : ℕ) → a < k + 1 → P a (gain_at s (gains ++ x ∷ []) a)
  each_more P gains k x size each here =
      below_more (λ a. P a (gain_at s (gains ++ x ∷ []) a)) k
      (λ a h. subst (P a) (sym (get_or_append_left gains (x ∷ []) s.none a (subst (λ m. a < m) (sym size) h))) (each a h))
      (subst (P k) (sym (get_or_push gains x s.none k size)) here)

  pub gains_more : (within : ℤ → V → Bool) (gains : List V) (k : ℕ) (x : V) → AreGains s within k gains → IsTrue (within (pos 16) x) → AreGains s within (k + 1) (gains ++ x ∷ [])
  gains_more within gains k x h fits = record {
    size = length_push gains x ∙ ap (λ m. m + 1) h.size;
    small = each_more (λ a y. IsTrue (within (pos 16) y)) gains k x h.size h.small fits;
  }

-- what is read of a list of costs, by its meaning
pub read : {C V : Type 0} (meaning : C → V) (xs : List C) (i : ℕ) (x : C) (none : V) → i < length (map meaning xs) → x ≡ get_or xs i x → meaning x ≡ get_or (map meaning xs) i none
read meaning xs i x none h is = sym (get_or-map meaning xs i x none (subst (λ m. i < m) (length-map xs meaning) h) ∙ ap meaning (sym is))

-- the meanings of a list of costs and one more
pub pushed_meanings : {C V : Type 0} (meaning : C → V) (old new : List C) (x : C) → new ≡ old ++ x ∷ [] → map meaning new ≡ map meaning old ++ meaning x ∷ []
pushed_meanings meaning old new x e = ap (map meaning) e ∙ map_push meaning old x

pub on_ok_all : {T E A B C D P : Type 0} (r : Result T E) → OnOk r A → OnOk r B → OnOk r C → OnOk r D → (A → B → C → D → P) → OnOk r P
on_ok_all (Ok x) a b c d f = f a b c d
on_ok_all (Err e) a b c d f = a
