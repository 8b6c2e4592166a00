-- What the laws of a scale give of the values that are above others, and of those that fit.
use Rattle.std.proofs.Common.{◌≡◌, ℕ, ◌+◌, ◌<◌, ◌≤◌, Bool, true, false, IsTrue, List, length, map, get_or, refl, sym, ◌∙◌, ap, ap₂, subst, arith}
use Rattle.std.specs.Prelude.{ℤ, pos, ◌+ℤ◌}
use Rattle.std.specs.declared.cmp.Ordering.{Ordering}
use Rattle.std.specs.declared.cmp.Ordering.TheVariants.{Less, Equal, Greater}
use Rattle.std.specs.Ordering.{is_gt, ordering_reverse}
use Rattle.std.specs.Cmp.{upto, tied_itself, ranked}
use Rattle.std.proofs.lemmas.List.{get_or-map, length-map}
use borrow.Author.Differences.{ints}
use Rattle.gd_scale.specs.Scale.{Scale}
use Rattle.gd_scale.specs.Laws.{IsLawful, IsBounded, IsRanked}
use Rattle.gd_scale.proofs.Group.{neutral_left}
use Rattle.gd_labels.specs.Events.{above}

pub is_greater : (r : Ordering) → is_gt r ≡ true → r ≡ Greater
is_greater Less h = absurd (let e : false ≡ true = h in cc)
is_greater Equal h = absurd (let e : false ≡ true = h in cc)
is_greater Greater h = refl

not_turned : (r : Ordering) → is_gt r ≡ true → is_gt (ordering_reverse r) ≡ false
not_turned Less h = absurd (let e : false ≡ true = h in cc)
not_turned Equal h = absurd (let e : false ≡ true = h in cc)
not_turned Greater h = refl

module _ {V : Type 0} {s : Scale V} (lawful : IsLawful s) where
  pub above_itself : (x : V) → above s x x ≡ false
  above_itself x = ap is_gt (tied_itself lawful.total x)

  -- what is above y is above all that is not
  pub above_through : (x y z : V) → above s x y ≡ false → above s z y ≡ true → above s z x ≡ true
  above_through x y z h k =
      elim (above s z x) as (λ b. above s z x ≡ b → above s z x ≡ true) [
        | true ↦ λ e. e
        | false ↦ λ e. let f : above s z y ≡ false = upto lawful.total z x y e h in cc
      ] refl

  -- what is not above y is not above what is
  pub stays : (y z x : V) → above s x y ≡ false → above s z y ≡ true → above s x z ≡ false
  stays y z x h k = upto lawful.total x y z h (ap is_gt (lawful.total.antisymm y z) ∙ not_turned (s.order z y) k)

  -- a sum above its part: the rest gains
  pub gains : (x g : V) → above s (s.plus x g) x ≡ true → above s g s.none ≡ true
  gains x g h = ap is_gt (sym (lawful.kept g s.none x) ∙ ap₂ s.order (lawful.commutes g x) (neutral_left s lawful x)) ∙ h

module _ {V : Type 0} {s : Scale V} {within : ℤ → V → Bool} (bounded : IsBounded s within) where
  pub fits_more : (a b : ℕ) (x : V) → a ≤ b → IsTrue (within (pos a) x) → IsTrue (within (pos b) x)
  fits_more a b x least h = bounded.wider (pos a) (pos b) x (omega (arith, ints)) h

  pub fits_plus : (a b : ℕ) (x y : V) → IsTrue (within (pos a) x) → IsTrue (within (pos b) y) → IsTrue (within (pos (a + b)) (s.plus x y))
  fits_plus a b x y h k = bounded.wider (pos a +ℤ pos b) (pos (a + b)) (s.plus x y) (omega (arith, ints)) (bounded.plus (pos a) (pos b) x y h k)

-- what is above ranks above
pub rank_rises : {V : Type 0} {s : Scale V} {within : ℤ → V → Bool} {size : ℕ → ℕ} {rank : ℕ → V → ℕ} (order : IsRanked s within size rank) (b : ℕ) (x y : V)
    → IsTrue (within (pos b) x) → IsTrue (within (pos b) y) → above s y x ≡ true → rank b x < rank b y
rank_rises {s = s} {rank = rank} order b x y h k rises =
    ranked (rank b y) (rank b x) Greater (sym (order.in_order b y x k h ∙ is_greater (s.order y x) rises))

-- a value that was read, in the list of meanings
pub meaning_read : {C V : Type 0} (meaning : C → V) (items : List C) (i : ℕ) (x : C) (none : V) → i < length (map meaning items) → x ≡ get_or items i x → meaning x ≡ get_or (map meaning items) i none
meaning_read meaning items i x none within read = sym (get_or-map meaning items i x none (subst (λ n. i < n) (length-map items meaning) within) ∙ ap meaning (sym read))
