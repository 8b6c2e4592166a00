-- The definitions at worked examples.
use Rattle.std.proofs.Common.{true, false, ◌≡◌, ℕ, suc, zero, ◌+◌, ◌^◌, ◌<◌, ◌≤◌, List, [], ◌∷◌, refl, arith, lit<, lit≤}
use Rattle.std.specs.Prelude.{ℤ, pos, negsuc, ◌≤ℤ◌, ◌<ℤ◌}
use Rattle.std.proofs.Common.{inl, inr}
use Rattle.std.proofs.lemmas.Int.{ints}
use Rattle.gd_rules.specs.Class.{Service, Firm, Interruptible, class_of}
use lib.Signed.{le_z_yes}
use Rattle.std.specs.declared.cmp.Ordering.TheVariants.{Less, Equal, Greater}
use Rattle.gd_rules.specs.Question.{Question, element, line}
use Rattle.gd_rules.specs.Question.Element.{Segment, Receipt, Delivery, Pool}
use Rattle.gd_rules.specs.Schedule.{IsAllowed, HasBetterTotals, Holds, load, class_total, quantity}
use Rattle.gd_rules.specs.Spread.{class_weight, line_weight, tenth_of, tenth_end}
use Rattle.gd_rules.specs.Priced.{IsPriced, Clears, price, margin}
use Rattle.gd_scale.specs.Scale.{AtMost}
use Rattle.gd_rules.specs.Tree.{IsLine, HasLines}
use Rattle.std.specs.List.{IsDistinct}
use Rattle.gd_rules.specs.Spread.{IsBest, IsBetter}
use Rattle.gd_rules.proofs.Better.{prices_show_best}
use Rattle.gd_scale.specs.Words.{words_order, words_fit}
use Rattle.gd_rules.specs.Tariff.{tariff, tariff_unit, at_class, IsSmall, IsPricedByTariff}
use Rattle.std.proofs.Common.{Bool, ◌≢◌, ◌==◌, subst, sym}
use Rattle.std.proofs.lemmas.Bool.{eqb-true, eqb-false}
use Rattle.gd_rules.specs.Cut.{excess, IsCut, Side}

-- what holds of 0, 1 and so on below n
abbrev Below : (ℕ → Type 0) → ℕ → Type 0
Below P zero = Unit {0}
Below P (suc n) = Below P n × P n

each : (P : ℕ → Type 0) (n : ℕ) → Below P n → (i : ℕ) → i < n → P i
each P zero h i k = absurd (omega arith)
each P (suc n) h i k = go (i == n) refl (λ less. each P n h.0 i less)
  where
    go : (v : Bool) → (i == n) ≡ v → (i < n → P i) → P i
    go true e before = subst P (sym (eqb-true i n e)) h.1
    go false e before = let other : i ≢ n = eqb-false i n e in before (omega arith)

-- ---- classes: a firm contract from 2 to 3 over segments 0 and 1
firm : Service
firm = Firm 2 3 (0 ∷ 1 ∷ [])

-- both primary ends; a delivery half way; two ends at one place; a segment off the primary route; a band
classes : (class_of firm 2 3 (0 ∷ 1 ∷ []) ≡ 1) × (class_of firm 2 4 (0 ∷ []) ≡ 2) × (class_of firm 5 6 [] ≡ 2) × (class_of firm 2 7 (0 ∷ 8 ∷ []) ≡ 3) × (class_of (Interruptible 3) 2 3 (0 ∷ 1 ∷ []) ≡ 6)
unfolding firm
classes = (refl, refl, refl, refl, refl)

-- one segment A to B of 100, ample points, class 1 to 80 and class 4 to 50
one : Question
one = record {
  elements = Segment 0 1 100 ∷ Receipt 0 1000 ∷ Delivery 1 1000 ∷ [];
  lines = record { origin = 1; dest = 2; route = 0 ∷ []; class = 1; floor = 0; ceiling = 80 } ∷ record { origin = 1; dest = 2; route = 0 ∷ []; class = 4; floor = 0; ceiling = 50 } ∷ [];
}

one-load : load one (80 ∷ 20 ∷ []) 0 ≡ pos 100
unfolding one
one-load = refl

one-total : class_total one (80 ∷ 20 ∷ []) 4 ≡ 20
unfolding one
one-total = refl

-- tenths of 50 end at 5, 10 ..: dekatherm 20 is in tenth 4, 21 in tenth 5
tenths : (tenth_of 50 20 ≡ 4) × (tenth_of 50 21 ≡ 5) × (tenth_of 50 1 ≡ 1) × (tenth_of 50 50 ≡ 10) × (line_weight (record { origin = 0; dest = 0; route = []; class = 4; floor = 0; ceiling = 50 }) 20 ≡ 50)
tenths = (refl, refl, refl, refl, refl)

-- tenths of 25 end at 2 1/2, 5, 7 1/2 ..: dekatherm 7 is the last of tenth 3, and 8 is in tenth 4
parted-tenths : (tenth_end 25 3 ≡ 7) × (tenth_of 25 7 ≡ 3) × (tenth_of 25 8 ≡ 4)
parted-tenths = (refl, refl, refl)

p4 : ℕ → ℤ
p4 k = at_class 4 (pos 1) k

-- a price of 1 and -4 at class 4: the margin of line 2's last dekatherm is level with zero, that of the next is below
last-passes : tariff.order (margin tariff tariff_unit one ((at_class 4 (pos 1), at_class 4 (negsuc 3)) ∷ []) 1 20) tariff.none ≡ Equal
unfolding one words_order
last-passes = refl

next-passes : tariff.order (margin tariff tariff_unit one ((at_class 4 (pos 1), at_class 4 (negsuc 3)) ∷ []) 1 21) tariff.none ≡ Less
unfolding one words_order
next-passes = refl

-- a price of 1 alone: the last dekatherm's margin is below zero
overfilled : tariff.order (margin tariff tariff_unit one ((at_class 4 (pos 1), λ k. pos 0) ∷ []) 1 20) tariff.none ≡ Less
unfolding one words_order
overfilled = refl

-- two segments of 100 after one another; line 1 over both, lines 2 and 3 over one each, all of class 4, 0 to 100
two : Question
two = record {
  elements = Segment 0 1 100 ∷ Segment 1 2 100 ∷ Receipt 0 1000 ∷ Delivery 1 1000 ∷ Receipt 1 1000 ∷ Delivery 2 1000 ∷ [];
  lines =
      record { origin = 2; dest = 5; route = 0 ∷ 1 ∷ []; class = 4; floor = 0; ceiling = 100 }
      ∷ record { origin = 2; dest = 3; route = 0 ∷ []; class = 4; floor = 0; ceiling = 100 }
      ∷ record { origin = 4; dest = 5; route = 1 ∷ []; class = 4; floor = 0; ceiling = 100 } ∷ [];
}

two-loads : (load two (0 ∷ 100 ∷ 100 ∷ []) 0 ≡ pos 100) × (load two (0 ∷ 100 ∷ 100 ∷ []) 1 ≡ pos 100) × (load two (0 ∷ 100 ∷ 100 ∷ []) 5 ≡ pos 100)
unfolding two
two-loads = (refl, refl, refl)

-- at prices of 1 and -10 on both segments line 1's next dekatherm is below zero, lines 2 and 3's last are level
two-passes :
    (tariff.order (margin tariff tariff_unit two ((at_class 4 (pos 1), at_class 4 (negsuc 9)) ∷ (at_class 4 (pos 1), at_class 4 (negsuc 9)) ∷ []) 0 1) tariff.none ≡ Less)
    × (tariff.order (margin tariff tariff_unit two ((at_class 4 (pos 1), at_class 4 (negsuc 9)) ∷ (at_class 4 (pos 1), at_class 4 (negsuc 9)) ∷ []) 1 100) tariff.none ≡ Equal)
    × (tariff.order (margin tariff tariff_unit two ((at_class 4 (pos 1), at_class 4 (negsuc 9)) ∷ (at_class 4 (pos 1), at_class 4 (negsuc 9)) ∷ []) 2 100) tariff.none ≡ Equal)
unfolding two words_order
two-passes = (refl, refl, refl)

-- quantities 100, 0, 0 with a price on the first segment alone: line 3's next is above zero
two-underfilled : tariff.order (margin tariff tariff_unit two ((at_class 4 (pos 1), λ k. pos 0) ∷ []) 2 1) tariff.none ≡ Greater
unfolding two words_order
two-underfilled = refl

-- a pool at B: R1 to P1 class 1 to 100 and class 4 to 30, P1 to D1 class 1 to 60 and class 4 to 30
pooled : Question
pooled = record {
  elements = Segment 0 1 1000 ∷ Receipt 0 1000 ∷ Delivery 1 1000 ∷ Pool 1 ∷ [];
  lines =
      record { origin = 1; dest = 3; route = 0 ∷ []; class = 1; floor = 0; ceiling = 100 }
      ∷ record { origin = 1; dest = 3; route = 0 ∷ []; class = 4; floor = 0; ceiling = 30 }
      ∷ record { origin = 3; dest = 2; route = []; class = 1; floor = 0; ceiling = 60 }
      ∷ record { origin = 3; dest = 2; route = []; class = 4; floor = 0; ceiling = 30 } ∷ [];
}

pooled-loads : (load pooled (90 ∷ 0 ∷ 60 ∷ 30 ∷ []) 3 ≡ pos 0) × (load pooled (90 ∷ 0 ∷ 60 ∷ 20 ∷ []) 3 ≡ pos 10) × (class_total pooled (90 ∷ 0 ∷ 60 ∷ 30 ∷ []) 1 ≡ 150)
unfolding pooled
pooled-loads = (refl, refl, refl)

-- price 1 and -9 of the pool at class 1: line 1's last of 90 level, its next below; line 2's next below; lines 3 and 4's last above
pooled-passes :
    (tariff.order (margin tariff tariff_unit pooled (tariff.none ∷ tariff.none ∷ tariff.none ∷ (at_class 1 (pos 1), at_class 1 (negsuc 8)) ∷ []) 0 90) tariff.none ≡ Equal)
    × (tariff.order (margin tariff tariff_unit pooled (tariff.none ∷ tariff.none ∷ tariff.none ∷ (at_class 1 (pos 1), at_class 1 (negsuc 8)) ∷ []) 0 91) tariff.none ≡ Less)
    × (tariff.order (margin tariff tariff_unit pooled (tariff.none ∷ tariff.none ∷ tariff.none ∷ (at_class 1 (pos 1), at_class 1 (negsuc 8)) ∷ []) 1 1) tariff.none ≡ Less)
    × (tariff.order (margin tariff tariff_unit pooled (tariff.none ∷ tariff.none ∷ tariff.none ∷ (at_class 1 (pos 1), at_class 1 (negsuc 8)) ∷ []) 2 60) tariff.none ≡ Greater)
    × (tariff.order (margin tariff tariff_unit pooled (tariff.none ∷ tariff.none ∷ tariff.none ∷ (at_class 1 (pos 1), at_class 1 (negsuc 8)) ∷ []) 3 30) tariff.none ≡ Greater)
unfolding pooled words_order
pooled-passes = (refl, refl, refl, refl, refl)

-- into the pool at least 100, out of it at most 40 (100): with both places, R1 and D1 inside, the excess is 60 (0)
held : ℕ → Question
held ceiling = record {
  elements = Segment 0 1 1000 ∷ Receipt 0 1000 ∷ Delivery 1 1000 ∷ Pool 1 ∷ [];
  lines = record { origin = 1; dest = 3; route = 0 ∷ []; class = 1; floor = 100; ceiling = 100 } ∷ record { origin = 3; dest = 2; route = []; class = 1; floor = 40; ceiling = ceiling } ∷ [];
}

all_but_pool : Side
all_but_pool = record { places = true ∷ true ∷ []; ends = false ∷ true ∷ true ∷ false ∷ [] }

held-excess : (excess (held 40) all_but_pool ≡ pos 60) × (excess (held 100) all_but_pool ≡ pos 0)
unfolding held all_but_pool
held-excess = (refl, refl)

-- the tree's rule of spread: 90 over lines of class 4 to 100 and 50; 60 and 30 weigh 210 and 105
spread : Question
spread = record {
  elements = Segment 0 1 90 ∷ Receipt 0 1000 ∷ Delivery 1 1000 ∷ [];
  lines = record { origin = 1; dest = 2; route = 0 ∷ []; class = 4; floor = 0; ceiling = 100 } ∷ record { origin = 1; dest = 2; route = 0 ∷ []; class = 4; floor = 0; ceiling = 50 } ∷ [];
}

spread-weights : (class_weight spread (60 ∷ 30 ∷ []) 4 ≡ 315) × (class_weight spread (90 ∷ 0 ∷ []) 4 ≡ 450)
unfolding spread
spread-weights = (refl, refl)

-- with one dekatherm more the segment doesn't hold its load
one-over : load one (80 ∷ 21 ∷ []) 0 ≡ pos 101
unfolding one
one-over = refl

one-broken : IsAllowed one (80 ∷ 21 ∷ []) → ⊥
unfolding one
one-broken h = let over : pos 101 ≤ℤ pos 100 = h.loads 0 (lit< tt) in omega (arith, ints)

-- the totals of both are 90, and the even one weighs less
spread-better : IsBetter spread (60 ∷ 30 ∷ []) (90 ∷ 0 ∷ [])
unfolding spread
spread-better =
    inr (
      (λ c low high. each (λ c. class_total spread (60 ∷ 30 ∷ []) c ≡ class_total spread (90 ∷ 0 ∷ []) c) 9 (((((((((tt, refl), refl), refl), refl), refl), refl), refl), refl), refl) c (omega arith)),
      (4, lit≤ tt, lit≤ tt, (λ c low high. each (λ c. class_weight spread (60 ∷ 30 ∷ []) c ≡ class_weight spread (90 ∷ 0 ∷ []) c) 4 ((((tt, refl), refl), refl), refl) c high), lit< tt),
    )

-- ---- whole records, so that no definition asks too much

-- a line of the first question, whatever its class and its ceiling
line-is : (class ceiling : ℕ) → 1 ≤ class → class ≤ 8 → IsLine one (record { origin = 1; dest = 2; route = 0 ∷ []; class = class; floor = 0; ceiling = ceiling })
unfolding one IsDistinct
line-is class ceiling low high = record {
  origin_known = lit< tt;
  dest_known = lit< tt;
  sends = tt;
  takes = tt;
  apart = omega arith;
  routed = ((0, 1) ∷ [], refl, ((refl, refl), refl), ((refl, tt), (tt, tt)));
  bounds = omega arith;
  classed = (low, high);
}

one-lines : HasLines one
unfolding one
one-lines = each (λ i. IsLine one (line one i)) 2 ((tt, line-is 1 80 (lit≤ tt) (lit≤ tt)), line-is 4 50 (lit≤ tt) (lit≤ tt))

one-allowed : IsAllowed one (80 ∷ 20 ∷ [])
unfolding one
one-allowed = record {
  shape = refl;
  floors = each (λ i. (line one i).floor ≤ quantity (80 ∷ 20 ∷ []) i) 2 ((tt, lit≤ tt), lit≤ tt);
  ceilings = each (λ i. quantity (80 ∷ 20 ∷ []) i ≤ (line one i).ceiling) 2 ((tt, lit≤ tt), lit≤ tt);
  loads = each (λ e. Holds (element one e) (load one (80 ∷ 20 ∷ []) e)) 3 (((tt, le_z_yes tt), le_z_yes tt), le_z_yes tt);
}

price_one : List ((ℕ → ℤ) × (ℕ → ℤ))
price_one = (at_class 4 (pos 1), at_class 4 (negsuc 3)) ∷ tariff.none ∷ tariff.none ∷ []

one-priced : IsPriced tariff tariff_unit one (80 ∷ 20 ∷ []) price_one
unfolding one price_one words_order
one-priced = record {
  shape = refl;
  clears = each (λ e. Clears tariff (element one e) (load one (80 ∷ 20 ∷ []) e) (price tariff price_one e)) 3
      (((tt, (λ _. refl, λ h. cc)), (λ h. cc, λ h. cc)), (λ h. cc, λ h. cc));
  next = each (λ i. quantity (80 ∷ 20 ∷ []) i < (line one i).ceiling → AtMost tariff (margin tariff tariff_unit one price_one i (quantity (80 ∷ 20 ∷ []) i + 1)) tariff.none) 2
      ((tt, λ h. absurd (omega arith)), λ _ e. cc);
  last = each (λ i. (line one i).floor < quantity (80 ∷ 20 ∷ []) i → AtMost tariff tariff.none (margin tariff tariff_unit one price_one i (quantity (80 ∷ 20 ∷ []) i))) 2
      ((tt, λ _ e. cc), λ _ e. cc);
}

-- each of its words is small too, so the tariff's whole demand on prices is met
one-tariff : IsPricedByTariff one (80 ∷ 20 ∷ []) price_one
unfolding price_one words_fit
one-tariff = record {
  small = each (λ e. IsSmall (price tariff price_one e).0 × IsSmall (price tariff price_one e).1) 3 (((tt, (refl, refl)), (refl, refl)), (refl, refl));
  priced = one-priced;
}

-- so no schedule of the first question is better
one-best : IsBest one (80 ∷ 20 ∷ [])
one-best = prices_show_best one (80 ∷ 20 ∷ []) price_one one-allowed one-priced

-- ---- the opposite, where a premise of a law is missing

-- with a floor above 0 a set is a cut, so that none is one only where there is no floor
held-cut : IsCut (held 40) all_but_pool
unfolding held all_but_pool
held-cut = let more : pos 0 <ℤ pos 60 = omega (arith, ints) in more

-- and the zeros aren't allowed: line 1 is below its floor
held-zeros : IsAllowed (held 40) (0 ∷ 0 ∷ []) → ⊥
unfolding held
held-zeros h = let low : 100 ≤ 0 = h.floors 0 (lit< tt) in omega arith

-- nor are the floors, by which 60 dekatherms more go into the pool than come out of it
held-unbalanced : IsAllowed (held 40) (100 ∷ 40 ∷ []) → ⊥
unfolding held
held-unbalanced h = let level : pos 60 ≡ pos 0 = h.loads 3 (lit< tt) in omega (arith, ints)

-- 80 of class 1 and 20 of class 4 are better by totals than 79 and 21, though both come to 100
one-totals : HasBetterTotals one (80 ∷ 20 ∷ []) (79 ∷ 21 ∷ [])
unfolding one
one-totals = (1, lit≤ tt, lit≤ tt, (λ c low high. absurd (omega arith)), lit< tt)

one-better : IsBetter one (80 ∷ 20 ∷ []) (79 ∷ 21 ∷ [])
one-better = inl one-totals

-- so the worse one isn't best
one-worse : IsBest one (79 ∷ 21 ∷ []) → ⊥
one-worse h = h.1 (80 ∷ 20 ∷ []) one-allowed one-better

-- where the segment isn't full, a price above zero doesn't clear
one-slack : IsPriced tariff tariff_unit one (80 ∷ 10 ∷ []) price_one → ⊥
unfolding one price_one words_order
one-slack h = let full : pos 90 ≡ pos 100 = (h.clears 0 (lit< tt)).0 refl in omega (arith, ints)

-- at a price of 0 throughout line 2 would gain by its next dekatherm
one-free : IsPriced tariff tariff_unit one (80 ∷ 20 ∷ []) (tariff.none ∷ tariff.none ∷ tariff.none ∷ []) → ⊥
unfolding one words_order
one-free h = h.next 1 (lit< tt) (lit< tt) refl

-- a number of 2^40 + 1 is too large for a price
too-large : IsSmall (at_class 1 (pos (2 ^ 40 + 1))) → ⊥
unfolding words_fit
too-large h = cc

-- an eleventh tenth would begin after the ceiling: dekatherm 51 of a ceiling of 50 lies in tenth 10 still
no-eleventh : (tenth_of 50 51 ≡ 10) × (tenth_end 50 11 ≡ 55)
no-eleventh = (refl, refl)
