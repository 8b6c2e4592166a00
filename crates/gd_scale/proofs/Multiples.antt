-- Multiples by whole numbers.
use Rattle.std.proofs.Common.{◌≡◌, ℕ, suc, zero, ◌+◌, ◌-◌, refl, sym, ap, ◌∙◌, subst, arith}
use Rattle.std.specs.Prelude.{ℤ, pos, negsuc, ◌+ℤ◌, ◌*ℤ◌, ◌≤ℤ◌}
use borrow.Author.Differences.{up, down, ints}
use lib.IntN.{suc_ℤ-*ℤ, *ℤ_comm, *ℤ-zero}
use Rattle.gd_scale.specs.Sum.{sum_int}
use Rattle.gd_scale.specs.Scale.{Scale, repeated, multiple, total_below, AtMost}
use Rattle.gd_scale.specs.Laws.{IsLawful}
use Rattle.gd_scale.proofs.Group.{regroup, injective, at_most_itself, at_most_plus, repeated_add, repeated_up, repeated_down}

module _ {V : Type 0} (s : Scale V) (l : IsLawful s) where
  -- x times z, and what z lacks
  multiple_is : (z : ℤ) (x : V) → s.plus (multiple s z x) (repeated s (down z) x) ≡ repeated s (up z) x
  multiple_is (pos n) x = l.neutral (repeated s n x)
  multiple_is (negsuc n) x = l.commutes (s.minus (repeated s (suc n) x)) (repeated s (suc n) x) ∙ l.inverse (repeated s (suc n) x)

  sums_up : (a b : ℤ) → up (a +ℤ b) + (down a + down b) ≡ down (a +ℤ b) + (up a + up b)
  sums_up a b = omega (arith, ints)

  pub multiple_add : (a b : ℤ) (x : V) → multiple s (a +ℤ b) x ≡ s.plus (multiple s a x) (multiple s b x)
  multiple_add a b x =
      let c : ℤ = a +ℤ b in
      injective s l (multiple s c x) (s.plus (multiple s a x) (multiple s b x)) (s.plus (repeated s (down c) x) (s.plus (repeated s (down a) x) (repeated s (down b) x)))
      (sym (l.associates (multiple s c x) (repeated s (down c) x) (s.plus (repeated s (down a) x) (repeated s (down b) x)))
      ∙ ap (λ w. s.plus w (s.plus (repeated s (down a) x) (repeated s (down b) x))) (multiple_is c x)
      ∙ ap (s.plus (repeated s (up c) x)) (sym (repeated_add s l (down a) (down b) x))
      ∙ sym (repeated_add s l (up c) (down a + down b) x)
      ∙ ap (λ n. repeated s n x) (sums_up a b)
      ∙ repeated_add s l (down c) (up a + up b) x
      ∙ ap (s.plus (repeated s (down c) x)) (repeated_add s l (up a) (up b) x ∙ sym (ap (s.plus (s.plus (multiple s a x) (repeated s (down a) x))) (multiple_is b x) ∙ ap (λ w. s.plus w (repeated s (up b) x)) (multiple_is a x)) ∙ regroup s l (multiple s a x) (repeated s (down a) x) (multiple s b x) (repeated s (down b) x))
      ∙ sym (l.associates (repeated s (down c) x) (s.plus (multiple s a x) (multiple s b x)) (s.plus (repeated s (down a) x) (repeated s (down b) x)))
      ∙ ap (λ w. s.plus w (s.plus (repeated s (down a) x) (repeated s (down b) x))) (l.commutes (repeated s (down c) x) (s.plus (multiple s a x) (multiple s b x)))
      ∙ l.associates (s.plus (multiple s a x) (multiple s b x)) (repeated s (down c) x) (s.plus (repeated s (down a) x) (repeated s (down b) x)))

  times_suc : (c : ℤ) (n : ℕ) → c *ℤ pos (suc n) ≡ c *ℤ pos n +ℤ c
  times_suc c n = *ℤ_comm c (pos (suc n)) ∙ suc_ℤ-*ℤ (pos n) c ∙ ap (λ w. w +ℤ c) (*ℤ_comm (pos n) c)

  pub multiple_times : (c : ℤ) (n : ℕ) (x : V) → multiple s (c *ℤ pos n) x ≡ repeated s n (multiple s c x)
  multiple_times c zero x = ap (λ z. multiple s z x) (*ℤ-zero c)
  multiple_times c (suc n) x = ap (λ z. multiple s z x) (times_suc c n) ∙ multiple_add (c *ℤ pos n) c x ∙ ap (λ w. s.plus w (multiple s c x)) (multiple_times c n x)

  pub multiple_sum : (n : ℕ) (f : ℕ → ℤ) (x : V) → multiple s (sum_int n f) x ≡ total_below s n (λ i. multiple s (f i) x)
  multiple_sum zero f x = refl
  multiple_sum (suc n) f x = multiple_add (sum_int n f) (f n) x ∙ ap (λ w. s.plus w (multiple s (f n) x)) (multiple_sum n f x)

  gap : (a b : ℤ) → a ≤ℤ b → (k : ℕ) × (b ≡ a +ℤ pos k)
  gap a b h = ((up b + down a) - (up a + down b), omega (arith, ints))

  -- more of what is not below zero is not less
  pub multiple_up : (a b : ℤ) (x : V) → a ≤ℤ b → AtMost s s.none x → AtMost s (multiple s a x) (multiple s b x)
  multiple_up a b x h p =
      let g = gap a b h in
      subst (λ z. AtMost s (multiple s a x) (multiple s z x)) (sym g.1)
      (subst (λ w. AtMost s (multiple s a x) w) (sym (multiple_add a (pos g.0) x))
      (subst (λ w. AtMost s w (s.plus (multiple s a x) (repeated s g.0 x))) (l.neutral (multiple s a x))
      (at_most_plus s l (multiple s a x) (multiple s a x) s.none (repeated s g.0 x) (at_most_itself s l (multiple s a x)) (repeated_up s l g.0 x p))))

  pub multiple_down : (a b : ℤ) (x : V) → a ≤ℤ b → AtMost s x s.none → AtMost s (multiple s b x) (multiple s a x)
  multiple_down a b x h p =
      let g = gap a b h in
      subst (λ z. AtMost s (multiple s z x) (multiple s a x)) (sym g.1)
      (subst (λ w. AtMost s w (multiple s a x)) (sym (multiple_add a (pos g.0) x))
      (subst (λ w. AtMost s (s.plus (multiple s a x) (repeated s g.0 x)) w) (l.neutral (multiple s a x))
      (at_most_plus s l (multiple s a x) (multiple s a x) (repeated s g.0 x) s.none (at_most_itself s l (multiple s a x)) (repeated_down s l g.0 x p))))
