-- What a dekatherm is worth by the tariff is a lawful cost, and no more in a later tenth.
use Rattle.std.proofs.Common.{◌≤◌, ℕ, ◌+◌, arith, Bool, true, false}
use Rattle.std.specs.Prelude.{ℤ, pos, neg_ℤ, ◌≤ℤ◌, if◌then◌else◌, ◌==◌, nat_lt}
use borrow.Author.Differences.{ints}
use Rattle.gd_scale.proofs.Words.{words_lawful, both_lawful, words_at_most, then_not}
use Rattle.gd_scale.specs.Laws.{IsLawful}
use Rattle.gd_scale.specs.Words.{words, words_order}
use Rattle.gd_rules.specs.Tariff.{at_class, class_unit, tariff, tariff_unit}
use Rattle.gd_rules.specs.Units.{NeverRises}

pub tariff_lawful : IsLawful tariff
tariff_lawful = both_lawful (words 8) (words 8) (words_lawful 8) (words_lawful 8)

-- no word of a later tenth is more
int_falls : (b : Bool) (m n : ℕ) → m ≤ n → (if b then neg_ℤ (pos n) else pos 0) ≤ℤ (if b then neg_ℤ (pos m) else pos 0)
int_falls true m n h = omega (arith, ints)
int_falls false m n h = omega (arith, ints)

below_falls : (a b : Bool) (m n : ℕ) → m ≤ n → (if a then (if b then neg_ℤ (pos n) else pos 0) else pos 0) ≤ℤ (if a then (if b then neg_ℤ (pos m) else pos 0) else pos 0)
below_falls true b m n h = int_falls b m n h
below_falls false b m n h = omega (arith, ints)

pub class_falls : NeverRises (words 8) class_unit
class_falls class early late h = words_at_most 8 (class_unit class late) (class_unit class early) (λ k. let a : ℤ = class_unit class late k in omega (arith, ints))

pub tariff_falls : NeverRises tariff tariff_unit
tariff_falls class early late h =
    then_not (words_order 8 (at_class class (pos 1)) (at_class class (pos 1))) (words_order 8 (at_class class (neg_ℤ (pos late))) (at_class class (neg_ℤ (pos early))))
    (words_at_most 8 (at_class class (pos 1)) (at_class class (pos 1)) (λ k. let a : ℤ = at_class class (pos 1) k in omega (arith, ints)))
    (words_at_most 8 (at_class class (neg_ℤ (pos late))) (at_class class (neg_ℤ (pos early))) (λ k. below_falls (nat_lt k 8) (class == k + 1) early late h))
