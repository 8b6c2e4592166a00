-- What the arcs of a network gain, and prices by the tariff.
use Rattle.std.proofs.Common.{◌≡◌, ℕ, ◌+◌, ◌-◌, ◌/◌, ◌%◌, ◌<◌, ◌≤◌, ◌^◌, List, length, Bool, true, false, ◌&&◌, refl, ap, ◌∙◌, subst, arith}
use Rattle.std.specs.Prelude.{ℤ, pos, nat_lt, if◌then◌else◌}
use Rattle.std.proofs.lemmas.Bool.{ltb-true, ltb-false, lt-ltb}
use Rattle.gd_rules.specs.Question.{Question, line}
use Rattle.gd_rules.specs.Priced.{IsPriced, price}
use Rattle.gd_rules.specs.Tariff.{IsPricedByTariff, tariff, tariff_unit}
use Rattle.gd_scale.specs.Words.{words_fit}
use Rattle.gd_scale.specs.Sizes.{both_fit}
use Rattle.gd_network.specs.Arcs.{tenth_arc}
use Rattle.gd_network.specs.Potential.{IsGains}

-- What the arc of this number gains: nothing where it is an element's.
pub gain_of : Question → ℕ → (ℕ → ℤ) × (ℕ → ℤ)
gain_of q a = if nat_lt a (length q.elements) then tariff.none else tariff_unit (line q ((a - length q.elements) / 10)).class ((a - length q.elements) % 10 + 1)

pub gains : (q : Question) → IsGains tariff tariff_unit q (gain_of q)
unfolding gain_of
gains q = record { elements = λ e h. rw (lt-ltb e (length q.elements) h) refl; tenths = at_tenth }
  where
    at_least : (m n : ℕ) → n ≤ m → nat_lt m n ≡ false
    at_least m n h = grind (arith, ltb-true, ltb-false)

    at_tenth : (i j : ℕ) → i < length q.lines → j < 10 → gain_of q (tenth_arc q i j) ≡ tariff_unit (line q i).class (j + 1)
    at_tenth i j h k =
        let line_is : (tenth_arc q i j - length q.elements) / 10 ≡ i = omega arith in
        let tenth_is : (tenth_arc q i j - length q.elements) % 10 ≡ j = omega arith in
        rw (at_least (tenth_arc q i j) (length q.elements) (omega arith))
        (ap (λ m. tariff_unit (line q m).class ((tenth_arc q i j - length q.elements) % 10 + 1)) line_is ∙ ap (λ m. tariff_unit (line q i).class (m + 1)) tenth_is)

both : (a b : Bool) → (a && b) ≡ true → (a ≡ true) × (b ≡ true)
both true b h = (refl, h)
both false b h = cc

-- Right prices, none of which is large, are prices by the tariff.
pub by_tariff : (q : Question) (schedule : List ℕ) (prices : List ((ℕ → ℤ) × (ℕ → ℤ))) → IsPriced tariff tariff_unit q schedule prices
    → ((e : ℕ) → e < length q.elements → both_fit (words_fit 8) (words_fit 8) (pos (2 ^ 40)) (price tariff prices e) ≡ true) → IsPricedByTariff q schedule prices
by_tariff q schedule prices priced small = record {
  small = λ e h. both (words_fit 8 (pos (2 ^ 40)) (price tariff prices e).0) (words_fit 8 (pos (2 ^ 40)) (price tariff prices e).1) (small e (subst (λ n. e < n) priced.shape h));
  priced = priced;
}
