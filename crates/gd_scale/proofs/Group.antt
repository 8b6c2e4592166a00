-- What follows from the laws of a scale.
use Rattle.std.proofs.Common.{◌≡◌, ◌≢◌, ℕ, suc, zero, ◌+◌, refl, sym, ap, ◌∙◌, subst, add-zero, add-suc, false}
use Rattle.std.specs.declared.cmp.Ordering.{Ordering}
use Rattle.std.specs.declared.cmp.Ordering.TheVariants.{Less, Equal, Greater}
use Rattle.std.specs.Ordering.{is_gt, ordering_reverse}
use Rattle.std.specs.Cmp.{upto, tied_itself}
use Rattle.gd_scale.specs.Scale.{Scale, repeated, AtMost}
use Rattle.gd_scale.specs.Laws.{IsLawful}

-- an answer that is not Greater tests so
pub not_greater : (r : Ordering) → r ≢ Greater → is_gt r ≡ false
not_greater Less h = refl
not_greater Equal h = refl
not_greater Greater h = absurd (h refl)

pub greater_not : (r : Ordering) → is_gt r ≡ false → r ≢ Greater
greater_not Less h e = cc
greater_not Equal h e = cc
greater_not Greater h e = cc

turned : (r : Ordering) → r ≢ Less → ordering_reverse r ≢ Greater
turned Less h e = absurd (h refl)
turned Equal h e = cc
turned Greater h e = cc

module _ {V : Type 0} (s : Scale V) (l : IsLawful s) where
  pub neutral_left : (x : V) → s.plus s.none x ≡ x
  neutral_left x = l.commutes s.none x ∙ l.neutral x

  -- four summands in another order
  pub regroup : (a b c d : V) → s.plus (s.plus a b) (s.plus c d) ≡ s.plus (s.plus a c) (s.plus b d)
  regroup a b c d =
      l.associates a b (s.plus c d)
      ∙ ap (s.plus a) (sym (l.associates b c d) ∙ ap (λ x. s.plus x d) (l.commutes b c) ∙ l.associates c b d)
      ∙ sym (l.associates a c (s.plus b d))

  pub cancel_right : (x y : V) → s.plus (s.plus x y) (s.minus y) ≡ x
  cancel_right x y = l.associates x y (s.minus y) ∙ ap (s.plus x) (l.inverse y) ∙ l.neutral x

  -- adding one value to two loses nothing
  pub injective : (x y z : V) → s.plus x z ≡ s.plus y z → x ≡ y
  injective x y z e = sym (cancel_right x z) ∙ ap (λ w. s.plus w (s.minus z)) e ∙ cancel_right y z

  pub minus_none : s.minus s.none ≡ s.none
  minus_none = sym (neutral_left (s.minus s.none)) ∙ l.inverse s.none

  pub at_most_itself : (x : V) → AtMost s x x
  at_most_itself x e = greater_not (s.order x x) (ap is_gt (tied_itself l.total x)) e

  pub at_most_same : (x y : V) → x ≡ y → AtMost s x y
  at_most_same x y e = subst (AtMost s x) e (at_most_itself x)

  pub at_most_then : (x y z : V) → AtMost s x y → AtMost s y z → AtMost s x z
  at_most_then x y z p q = greater_not (s.order x z) (upto l.total x y z (not_greater (s.order x y) p) (not_greater (s.order y z) q))

  pub at_most_left : (x y z : V) → AtMost s x y → AtMost s (s.plus x z) (s.plus y z)
  at_most_left x y z p e = p (sym (l.kept x y z) ∙ e)

  pub at_most_back : (x y z : V) → AtMost s (s.plus x z) (s.plus y z) → AtMost s x y
  at_most_back x y z p e = p (l.kept x y z ∙ e)

  pub at_most_plus : (a b c d : V) → AtMost s a b → AtMost s c d → AtMost s (s.plus a c) (s.plus b d)
  at_most_plus a b c d p q =
      at_most_then (s.plus a c) (s.plus b c) (s.plus b d) (at_most_left a b c p)
      (subst (λ w. AtMost s w (s.plus b d)) (l.commutes c b) (subst (λ w. AtMost s (s.plus c b) w) (l.commutes d b) (at_most_left c d b q)))

  -- x is not above y where y is not below x
  pub at_most_turned : (x y : V) → s.order y x ≢ Less → AtMost s x y
  at_most_turned x y h e = turned (s.order y x) h (sym (l.total.antisymm x y) ∙ e)

  pub repeated_add : (m n : ℕ) (x : V) → repeated s (m + n) x ≡ s.plus (repeated s m x) (repeated s n x)
  repeated_add m zero x = rw add-zero (sym (l.neutral (repeated s m x)))
  repeated_add m (suc n) x = rw add-suc (ap (λ w. s.plus w x) (repeated_add m n x) ∙ l.associates (repeated s m x) (repeated s n x) x)

  pub repeated_none : (n : ℕ) → repeated s n s.none ≡ s.none
  repeated_none zero = refl
  repeated_none (suc n) = l.neutral (repeated s n s.none) ∙ repeated_none n

  pub repeated_plus : (n : ℕ) (x y : V) → repeated s n (s.plus x y) ≡ s.plus (repeated s n x) (repeated s n y)
  repeated_plus zero x y = sym (l.neutral s.none)
  repeated_plus (suc n) x y = ap (λ w. s.plus w (s.plus x y)) (repeated_plus n x y) ∙ regroup (repeated s n x) (repeated s n y) x y

  -- repeating what is not below zero gives what is not below zero
  pub repeated_up : (n : ℕ) (x : V) → AtMost s s.none x → AtMost s s.none (repeated s n x)
  repeated_up zero x h = at_most_itself s.none
  repeated_up (suc n) x h = subst (λ w. AtMost s w (repeated s (suc n) x)) (l.neutral s.none) (at_most_plus s.none (repeated s n x) s.none x (repeated_up n x h) h)

  pub repeated_down : (n : ℕ) (x : V) → AtMost s x s.none → AtMost s (repeated s n x) s.none
  repeated_down zero x h = at_most_itself s.none
  repeated_down (suc n) x h = subst (λ w. AtMost s (repeated s (suc n) x) w) (l.neutral s.none) (at_most_plus (repeated s n x) s.none x s.none (repeated_down n x h) h)
