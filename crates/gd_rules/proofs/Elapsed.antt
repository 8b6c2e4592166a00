-- The elapsed quantity rises from cycle to cycle, and stays within the schedule in effect.
use Rattle.std.proofs.Common.{◌≡◌, ℕ, zero, suc, ◌+◌, ◌-◌, ◌≤◌, Bool, true, false, refl, subst, arith, inl, inr}
use Rattle.std.specs.Prelude.{if◌then◌else◌, nat_le, ◌⊎◌}
use Rattle.std.proofs.lemmas.Bool.{le-leb}
use Rattle.std.proofs.lemmas.Bool.Decides.{nat_tests}
use Rattle.std.proofs.Math.Nat.{div-le_of_le-mul, mul-le-mul_left}
use Rattle.gd_rules.specs.Bounds.{flowed, elapsed_after, elapsed, line_floor}
use Rattle.gd_rules.proofs.FloorBounds.{floor_above}

-- at most all of a quantity flows
pub flowed_within : (quantity hours rest : ℕ) → hours ≤ rest → flowed quantity hours rest ≤ quantity
flowed_within quantity hours rest h = div-le_of_le-mul rest (let wide = mul-le-mul_left quantity h in omega (arith, wide))

-- so what has flowed stays within the schedule
pub after_within : (gone scheduled hours rest : ℕ) → gone ≤ scheduled → hours ≤ rest → elapsed_after gone scheduled hours rest ≤ scheduled
after_within gone scheduled hours rest g h = let f = flowed_within (scheduled - gone) hours rest h in omega (arith, f)

module _ (passed : ℕ → ℕ) (day : ℕ) (scheduled : ℕ → ℕ) where
  abbrev gone : ℕ → ℕ
  gone c = elapsed passed day scheduled c

  at_start : (c : ℕ) → c ≤ 2 → gone c ≡ 0
  at_start zero h = refl
  at_start (suc c) h = rw (le-leb (suc c) 2 h) refl

  rises : (c : ℕ) → gone c ≤ gone (suc c)
  rises c = go (nat_le (suc c) 2) refl
    where
      go : (b : Bool) → nat_le (suc c) 2 ≡ b → gone c ≤ (if b then 0 else elapsed_after (gone c) (scheduled c) (passed (suc c) - passed c) (day - passed c))
      go true e = let none : gone c ≡ 0 = at_start c (grind (arith, nat_tests)) in omega arith
      go false e = omega arith

  rises_by : (early k : ℕ) → gone early ≤ gone (early + k)
  rises_by early zero =
      let e : early ≡ early + 0 = omega arith in
      let level : gone early ≤ gone early = omega arith in
      subst (λ n. gone early ≤ gone n) e level
  rises_by early (suc k) =
      let before = rises_by early k in
      let step = rises (early + k) in
      let e : suc (early + k) ≡ early + suc k = omega arith in
      let further : gone early ≤ gone (suc (early + k)) = omega (arith, before, step) in
      subst (λ n. gone early ≤ gone n) e further

  pub never_falls : (early late : ℕ) → early ≤ late → gone early ≤ gone late
  never_falls early late h = let e : early + (late - early) ≡ late = omega arith in subst (λ n. gone early ≤ gone n) e (rises_by early (late - early))

  module _ (ends : (c : ℕ) → passed c ≤ day) where
    within_next : (c : ℕ) → gone c ≤ scheduled c → gone (suc c) ≤ scheduled c
    within_next c h = go (nat_le (suc c) 2)
      where
        go : (b : Bool) → (if b then 0 else elapsed_after (gone c) (scheduled c) (passed (suc c) - passed c) (day - passed c)) ≤ scheduled c
        go true = omega arith
        go false = after_within (gone c) (scheduled c) (passed (suc c) - passed c) (day - passed c) h (let end = ends (suc c) in omega (arith, end))

    module _ (class : ℕ) (waived : ℕ → Bool) (ceiling : ℕ → ℕ)
        (kept : (c : ℕ) → (line_floor (suc c) class (waived (suc c)) (gone (suc c)) (scheduled c) (ceiling (suc c)) ≤ scheduled (suc c)) ⊎ (scheduled (suc c) ≡ scheduled c)) where
      kept_or_skipped : (c : ℕ) → gone (suc c) ≤ scheduled c → (line_floor (suc c) class (waived (suc c)) (gone (suc c)) (scheduled c) (ceiling (suc c)) ≤ scheduled (suc c)) ⊎ (scheduled (suc c) ≡ scheduled c) → gone (suc c) ≤ scheduled (suc c)
      kept_or_skipped c before (inl keeps) = let above = floor_above (suc c) class (waived (suc c)) (gone (suc c)) (scheduled c) (ceiling (suc c)) in omega (arith, above, keeps)
      kept_or_skipped c before (inr stays) = omega (arith, before, stays)

      within : (c : ℕ) → gone c ≤ scheduled c
      within zero = omega arith
      within (suc c) = kept_or_skipped c (within_next c (within c)) (kept c)

      pub stays_within : (c : ℕ) → gone (suc c) ≤ scheduled c
      stays_within c = within_next c (within c)
