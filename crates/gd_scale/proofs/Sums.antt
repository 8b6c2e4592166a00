-- Sums over a scale.
use Rattle.std.proofs.Common.{◌≡◌, ℕ, suc, zero, ◌<◌, refl, sym, ap, ◌∙◌, arith}
use Rattle.gd_scale.specs.Scale.{Scale, repeated, total_below, AtMost}
use Rattle.gd_scale.specs.Laws.{IsLawful}
use Rattle.gd_scale.proofs.Group.{regroup, at_most_itself, at_most_plus, repeated_none, repeated_plus}

module _ {V : Type 0} (s : Scale V) (l : IsLawful s) where
  pub total_same : (n : ℕ) (f g : ℕ → V) → ((i : ℕ) → i < n → f i ≡ g i) → total_below s n f ≡ total_below s n g
  total_same zero f g h = refl
  total_same (suc n) f g h = ap (λ w. s.plus w (f n)) (total_same n f g (λ i k. h i (omega arith))) ∙ ap (s.plus (total_below s n g)) (h n (omega arith))

  pub total_none : (n : ℕ) → total_below s n (λ _. s.none) ≡ s.none
  total_none zero = refl
  total_none (suc n) = l.neutral (total_below s n (λ _. s.none)) ∙ total_none n

  pub total_plus : (n : ℕ) (f g : ℕ → V) → total_below s n (λ i. s.plus (f i) (g i)) ≡ s.plus (total_below s n f) (total_below s n g)
  total_plus zero f g = sym (l.neutral s.none)
  total_plus (suc n) f g =
      ap (λ w. s.plus w (s.plus (f n) (g n))) (total_plus n f g) ∙ regroup s l (total_below s n f) (total_below s n g) (f n) (g n)

  -- sums over two numbers in either order
  pub exchange : (n m : ℕ) (f : ℕ → ℕ → V) → total_below s n (λ i. total_below s m (λ j. f i j)) ≡ total_below s m (λ j. total_below s n (λ i. f i j))
  exchange zero m f = sym (total_none m)
  exchange (suc n) m f =
      ap (λ w. s.plus w (total_below s m (f n))) (exchange n m f)
      ∙ sym (total_plus m (λ j. total_below s n (λ i. f i j)) (f n))

  pub total_at_most : (n : ℕ) (f g : ℕ → V) → ((i : ℕ) → i < n → AtMost s (f i) (g i)) → AtMost s (total_below s n f) (total_below s n g)
  total_at_most zero f g h = at_most_itself s l s.none
  total_at_most (suc n) f g h = at_most_plus s l (total_below s n f) (total_below s n g) (f n) (g n) (total_at_most n f g (λ i k. h i (omega arith))) (h n (omega arith))

  pub repeated_total : (k n : ℕ) (f : ℕ → V) → repeated s k (total_below s n f) ≡ total_below s n (λ i. repeated s k (f i))
  repeated_total k zero f = repeated_none s l k
  repeated_total k (suc n) f = repeated_plus s l k (total_below s n f) (f n) ∙ ap (λ w. s.plus w (repeated s k (f n))) (repeated_total k n f)
