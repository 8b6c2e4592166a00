-- The definitions at worked examples.
use Rattle.std.proofs.Common.{◌≡◌, ℕ, suc, zero, ◌-◌, ◌<◌, ◌≤◌, [], ◌∷◌, get_or, refl, arith, lit<, lit≤, inr}
use Rattle.std.specs.Prelude.{pos, ◌≤ℤ◌}
use borrow.Author.Differences.{ints}
use lib.Signed.{le_z_yes}
use Rattle.gd_rules.specs.Question.{Question}
use Rattle.gd_rules.specs.Question.Element.{Segment, Receipt, Delivery, Pool}
use Rattle.gd_rules.specs.Schedule.{load, class_total}
use Rattle.gd_rules.specs.Spread.{IsBetter, class_weight}
use Rattle.gd_schedule.specs.Table.{IsTable}
use Rattle.gd_schedule.specs.Exact.{Explains, KeepsFloor, KeepsCeiling, KeepsCapacity, KeepsBalance}
use Rattle.gd_schedule.specs.Order.{HasTotals}
use Rattle.gd_schedule.specs.declared.Broken.TheVariants.{BelowFloor, AboveCeiling, OverCapacity, Unbalanced}

below_two : (P : ℕ → Type 0) → P 0 → P 1 → (i : ℕ) → i < 2 → P i
below_two P a b zero h = a
below_two P a b (suc zero) h = b
below_two P a b (suc (suc n)) h = absurd (omega arith)

below_three : (P : ℕ → Type 0) → P 0 → P 1 → P 2 → (i : ℕ) → i < 3 → P i
below_three P a b c zero h = a
below_three P a b c (suc i) h = below_two (λ j. P (suc j)) b c i (omega arith)

below_four : (P : ℕ → Type 0) → P 0 → P 1 → P 2 → P 3 → (i : ℕ) → i < 4 → P i
below_four P a b c d zero h = a
below_four P a b c d (suc i) h = below_three (λ j. P (suc j)) b c d i (omega arith)

each_class : (P : ℕ → Type 0) → P 1 → P 2 → P 3 → P 4 → P 5 → P 6 → P 7 → P 8 → (class : ℕ) → 1 ≤ class → class ≤ 8 → P class
each_class P a b c d e f g h zero i j = absurd (omega arith)
each_class P a b c d e f g h (suc zero) i j = a
each_class P a b c d e f g h (suc (suc zero)) i j = b
each_class P a b c d e f g h (suc (suc (suc zero))) i j = c
each_class P a b c d e f g h (suc (suc (suc (suc zero)))) i j = d
each_class P a b c d e f g h (suc (suc (suc (suc (suc n))))) i j = below_four (λ m. P (suc (suc (suc (suc (suc m)))))) e f g h n (omega arith)

-- one segment of 100 from A to B, ample points, class 1 to 80 and class 4 to 50
one : Question
one = record {
  elements = Segment 0 1 100 ∷ Receipt 0 1000 ∷ Delivery 1 1000 ∷ [];
  lines = record { origin = 1; dest = 2; route = 0 ∷ []; class = 1; floor = 0; ceiling = 80 } ∷ record { origin = 1; dest = 2; route = 0 ∷ []; class = 4; floor = 0; ceiling = 50 } ∷ [];
}

-- 80 and 20 load the segment of 100 exactly
one-table : IsTable one (80 ∷ 20 ∷ []) (pos 100 ∷ pos 100 ∷ pos 100 ∷ [])
unfolding one
one-table = record {
  sized = refl;
  is = below_three (λ e. get_or (pos 100 ∷ pos 100 ∷ pos 100 ∷ []) e (pos 0) ≡ load one (80 ∷ 20 ∷ []) e) refl refl refl;
}

one-totals : HasTotals one (80 ∷ 20 ∷ []) (80 ∷ 0 ∷ 0 ∷ 20 ∷ 0 ∷ 0 ∷ 0 ∷ 0 ∷ [])
unfolding one
one-totals = record {
  sized = refl;
  each = each_class (λ c. get_or (80 ∷ 0 ∷ 0 ∷ 20 ∷ 0 ∷ 0 ∷ 0 ∷ 0 ∷ []) (c - 1) 0 ≡ class_total one (80 ∷ 20 ∷ []) c) refl refl refl refl refl refl refl refl;
}

-- with 21 the segment is over its capacity, and nothing comes before it
one-over : Explains one (80 ∷ 21 ∷ []) (OverCapacity (record { 0 = 0 }))
unfolding one
one-over = (
  (refl, below_two (KeepsFloor one (80 ∷ 21 ∷ [])) (lit≤ tt) (lit≤ tt), below_two (KeepsCeiling one (80 ∷ 21 ∷ [])) (lit≤ tt) (lit≤ tt)),
  (lit< tt, (λ (h : pos 101 ≤ℤ pos 100). absurd (omega (arith, ints))), (λ j h. absurd (omega arith))),
)

-- floors of 0 and 10: a line below its floor is told before one above its ceiling, though that stands first
floored : Question
floored = record {
  elements = Segment 0 1 100 ∷ Receipt 0 1000 ∷ Delivery 1 1000 ∷ [];
  lines = record { origin = 1; dest = 2; route = 0 ∷ []; class = 1; floor = 0; ceiling = 80 } ∷ record { origin = 1; dest = 2; route = 0 ∷ []; class = 4; floor = 10; ceiling = 50 } ∷ [];
}

floored-below : Explains floored (81 ∷ 9 ∷ []) (BelowFloor 1)
unfolding floored
floored-below = (refl, (lit< tt, (λ (h : 10 ≤ 9). absurd (omega arith)), λ j h. first j h))
  where
    first : (j : ℕ) → j < 1 → KeepsFloor floored (81 ∷ 9 ∷ []) j
    first zero h = lit≤ tt
    first (suc j) h = absurd (omega arith)

floored-above : Explains floored (81 ∷ 51 ∷ []) (AboveCeiling 0)
unfolding floored
floored-above = (refl, below_two (KeepsFloor floored (81 ∷ 51 ∷ [])) (lit≤ tt) (lit≤ tt), (lit< tt, (λ (h : 81 ≤ 80). absurd (omega arith)), λ j h. absurd (omega arith)))

-- a pool at B: into it class 1 to 100 and class 4 to 30, out of it class 1 to 60 and class 4 to 30
pooled : Question
pooled = record {
  elements = Segment 0 1 1000 ∷ Receipt 0 1000 ∷ Delivery 1 1000 ∷ Pool 1 ∷ [];
  lines =
      record { origin = 1; dest = 3; route = 0 ∷ []; class = 1; floor = 0; ceiling = 100 }
      ∷ record { origin = 1; dest = 3; route = 0 ∷ []; class = 4; floor = 0; ceiling = 30 }
      ∷ record { origin = 3; dest = 2; route = []; class = 1; floor = 0; ceiling = 60 }
      ∷ record { origin = 3; dest = 2; route = []; class = 4; floor = 0; ceiling = 30 } ∷ [];
}

-- 90 into it, 60 and 30 out of it
pooled-table : IsTable pooled (90 ∷ 0 ∷ 60 ∷ 30 ∷ []) (pos 90 ∷ pos 90 ∷ pos 90 ∷ pos 0 ∷ [])
unfolding pooled
pooled-table = record {
  sized = refl;
  is = below_four (λ e. get_or (pos 90 ∷ pos 90 ∷ pos 90 ∷ pos 0 ∷ []) e (pos 0) ≡ load pooled (90 ∷ 0 ∷ 60 ∷ 30 ∷ []) e) refl refl refl refl;
}

-- with 60 and 20 out of it 10 stay in the pool
pooled-unbalanced : Explains pooled (90 ∷ 0 ∷ 60 ∷ 20 ∷ []) (Unbalanced (record { 0 = 3 }))
unfolding pooled
pooled-unbalanced = (
  (refl, below_four (KeepsFloor pooled (90 ∷ 0 ∷ 60 ∷ 20 ∷ [])) (lit≤ tt) (lit≤ tt) (lit≤ tt) (lit≤ tt), below_four (KeepsCeiling pooled (90 ∷ 0 ∷ 60 ∷ 20 ∷ [])) (lit≤ tt) (lit≤ tt) (lit≤ tt) (lit≤ tt)),
  below_four (KeepsCapacity pooled (90 ∷ 0 ∷ 60 ∷ 20 ∷ [])) (le_z_yes tt) (le_z_yes tt) (le_z_yes tt) tt,
  (lit< tt, (λ (h : pos 10 ≡ pos 0). absurd (omega (arith, ints))), below_three (KeepsBalance pooled (90 ∷ 0 ∷ 60 ∷ 20 ∷ [])) tt tt tt),
)

-- 90 over lines of class 4 to 100 and 50: 60 and 30 weigh 210 and 105, 90 and 0 weigh 450
spread : Question
spread = record {
  elements = Segment 0 1 90 ∷ Receipt 0 1000 ∷ Delivery 1 1000 ∷ [];
  lines = record { origin = 1; dest = 2; route = 0 ∷ []; class = 4; floor = 0; ceiling = 100 } ∷ record { origin = 1; dest = 2; route = 0 ∷ []; class = 4; floor = 0; ceiling = 50 } ∷ [];
}

-- so the first of the two is better
spread-better : IsBetter spread (60 ∷ 30 ∷ []) (90 ∷ 0 ∷ [])
unfolding spread
spread-better = inr (
  each_class (λ c. class_total spread (60 ∷ 30 ∷ []) c ≡ class_total spread (90 ∷ 0 ∷ []) c) refl refl refl refl refl refl refl refl,
  (4, lit≤ tt, lit≤ tt, (λ c h j. below_four (λ c. class_weight spread (60 ∷ 30 ∷ []) c ≡ class_weight spread (90 ∷ 0 ∷ []) c) refl refl refl refl c j), lit< tt),
)
