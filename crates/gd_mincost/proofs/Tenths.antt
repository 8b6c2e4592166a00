-- A later tenth of a line gains no more than the one before.
use Rattle.std.proofs.Common.{◌≡◌, ℕ, suc, ◌+◌, ◌-◌, ◌*◌, ◌<◌, List, length, sym, ap, ◌∙◌, subst, arith}
use Rattle.gd_scale.specs.Scale.{Scale, AtMost}
use Rattle.gd_scale.specs.Laws.{IsLawful}
use Rattle.gd_scale.proofs.Group.{neutral_left, at_most_itself, at_most_then, at_most_left, at_most_plus}
use Rattle.gd_rules.specs.Question.{Question, line}
use Rattle.gd_rules.specs.Units.{NeverRises}
use Rattle.gd_network.specs.declared.arcs.Arc.{Arc}
use Rattle.gd_network.specs.Arcs.{Net, IsNetwork, from_at, to_at, tenth_arc}
use Rattle.gd_network.specs.Potential.{IsGains}
use Rattle.gd_mincost.specs.Settling.{potential}
use Rattle.gd_mincost.specs.Stillness.{GainsNoneAlong, GainsNoneBack, IsBeforeTenth}

-- the number before another
pub one_less : (k m : ℕ) → suc k ≡ m → m - 1 ≡ k
one_less k m is = omega (arith)

module _ {V : Type 0} (s : Scale V) (l : IsLawful s) where
  minus_down : (x y : V) → AtMost s x y → AtMost s (s.minus y) (s.minus x)
  minus_down x y h =
      subst (λ w. AtMost s w (s.minus x)) left
      (subst (λ w. AtMost s (s.plus x both) w) right (at_most_left s l x y both h))
    where
      both : V
      both = s.plus (s.minus x) (s.minus y)

      left : s.plus x both ≡ s.minus y
      left = sym (l.associates x (s.minus x) (s.minus y)) ∙ ap (λ w. s.plus w (s.minus y)) (l.inverse x) ∙ neutral_left s l (s.minus y)

      right : s.plus y both ≡ s.minus x
      right =
          ap (s.plus y) (l.commutes (s.minus x) (s.minus y)) ∙ sym (l.associates y (s.minus y) (s.minus x))
          ∙ ap (λ w. s.plus w (s.minus x)) (l.inverse y) ∙ neutral_left s l (s.minus x)

  module _ (unit : ℕ → ℕ → V) (falls : NeverRises s unit) (q : Question) (n : Net) (net : IsNetwork q n) (labels : List V) where
    abbrev at : ℕ → V
    at = potential s labels

    module _ (i j : ℕ) (h : i < length q.lines) (k : suc j < 10) (gain : ℕ → V) (gains : IsGains s unit q gain) where
      earlier : j < 10
      earlier = omega (arith)

      from_same : from_at n (tenth_arc q i (suc j)) ≡ from_at n (tenth_arc q i j)
      from_same = ap (λ (b : Arc). b.from) (net.tenths i (suc j) h k) ∙ sym (ap (λ (b : Arc). b.from) (net.tenths i j h earlier))

      to_same : to_at n (tenth_arc q i (suc j)) ≡ to_at n (tenth_arc q i j)
      to_same = ap (λ (b : Arc). b.to) (net.tenths i (suc j) h k) ∙ sym (ap (λ (b : Arc). b.to) (net.tenths i j h earlier))

      no_more : AtMost s (gain (tenth_arc q i (suc j))) (gain (tenth_arc q i j))
      no_more =
          subst (λ x. AtMost s x (gain (tenth_arc q i j))) (sym (gains.tenths i (suc j) h k))
          (subst (λ x. AtMost s (unit (line q i).class (suc j + 1)) x) (sym (gains.tenths i j h earlier))
          (falls (line q i).class (j + 1) (suc j + 1) (omega (arith))))

      along : AtMost s (s.plus (at (from_at n (tenth_arc q i j))) (gain (tenth_arc q i j))) (at (to_at n (tenth_arc q i j)))
          → AtMost s (s.plus (at (from_at n (tenth_arc q i (suc j)))) (gain (tenth_arc q i (suc j)))) (at (to_at n (tenth_arc q i (suc j))))
      along p =
          subst (λ v. AtMost s (s.plus (at v) (gain (tenth_arc q i (suc j)))) (at (to_at n (tenth_arc q i (suc j))))) (sym from_same)
          (subst (λ v. AtMost s (s.plus (at (from_at n (tenth_arc q i j))) (gain (tenth_arc q i (suc j)))) (at v)) (sym to_same)
          (at_most_then s l _ _ _ (at_most_plus s l _ _ _ _ (at_most_itself s l (at (from_at n (tenth_arc q i j)))) no_more) p))

      back : AtMost s (s.plus (at (to_at n (tenth_arc q i (suc j)))) (s.minus (gain (tenth_arc q i (suc j))))) (at (from_at n (tenth_arc q i (suc j))))
          → AtMost s (s.plus (at (to_at n (tenth_arc q i j))) (s.minus (gain (tenth_arc q i j)))) (at (from_at n (tenth_arc q i j)))
      back p =
          at_most_then s l _ _ _
          (at_most_plus s l _ _ _ _ (at_most_itself s l (at (to_at n (tenth_arc q i j)))) (minus_down (gain (tenth_arc q i (suc j))) (gain (tenth_arc q i j)) no_more))
          (subst (λ v. AtMost s (s.plus (at v) (s.minus (gain (tenth_arc q i (suc j))))) (at (from_at n (tenth_arc q i j)))) to_same
          (subst (λ v. AtMost s (s.plus (at (to_at n (tenth_arc q i (suc j)))) (s.minus (gain (tenth_arc q i (suc j))))) (at v)) from_same p))

    next_is : (a : ℕ) (b : IsBeforeTenth q a) → suc a ≡ tenth_arc q b.line (suc b.tenth)
    next_is a b = ap suc b.is ∙ next (length q.elements) (10 * b.line) b.tenth
      where
        next : (x y z : ℕ) → suc (x + (y + z)) ≡ x + (y + suc z)
        next x y z = omega (arith)

    pub gains_none_along : (a : ℕ) → IsBeforeTenth q a → GainsNoneAlong s unit q n labels a → GainsNoneAlong s unit q n labels (suc a)
    gains_none_along a b p = λ gain gains.
        subst (λ v. AtMost s (s.plus (at (from_at n v)) (gain v)) (at (to_at n v))) (sym (next_is a b))
        (along b.line b.tenth b.in_lines b.in_tenths gain gains
        (subst (λ v. AtMost s (s.plus (at (from_at n v)) (gain v)) (at (to_at n v))) b.is (p gain gains)))

    pub gains_none_back : (a : ℕ) → IsBeforeTenth q a → GainsNoneBack s unit q n labels (suc a) → GainsNoneBack s unit q n labels a
    gains_none_back a b p = λ gain gains.
        subst (λ v. AtMost s (s.plus (at (to_at n v)) (s.minus (gain v))) (at (from_at n v))) (sym b.is)
        (back b.line b.tenth b.in_lines b.in_tenths gain gains
        (subst (λ v. AtMost s (s.plus (at (to_at n v)) (s.minus (gain v))) (at (from_at n v))) (next_is a b) (p gain gains)))
