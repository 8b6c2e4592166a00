-- How far amounts are from their bounds.
use Rattle.std.proofs.Common.{◌≡◌, ◌⊎◌, ℕ, zero, suc, ◌+◌, ◌<◌, ◌≤◌, ◌^◌, List, length, arith, refl, sym, subst, inl, inr, cond, to_z, of_z}
use Rattle.std.specs.Prelude.{ℤ, pos, negsuc, neg_ℤ, ◌-ℤ◌, ◌≤ℤ◌, ◌<ℤ◌}
use Rattle.std.specs.Int.{w64}
use borrow.Author.Differences.{ints}
use Rattle.gd_network.specs.Arcs.{Net, lower_at, upper_at}
use Rattle.gd_network.specs.Beginning.{AreSound, IsFirst}
use Rattle.gd_network.specs.Flow.{flow_at, IsCirculation, IsWithin}
use Rattle.gd_network.specs.declared.walks.Step.{Step}
use Rattle.gd_network.specs.Steps.{above_none, amiss, amiss_at, room, IsNearer, Mends}
use Rattle.gd_flow.specs.Keeping.{IsKept, Holds}

pub above_least : (z : ℤ) (m : ℕ) → above_none z ≤ m → z ≤ℤ pos m
above_least (pos a) m h = omega (arith, ints)
above_least (negsuc a) m h = omega (arith, ints)

above_most : (z : ℤ) (m : ℕ) → z ≤ℤ pos m → above_none z ≤ m
above_most (pos a) m h = omega (arith, ints)
above_most (negsuc a) m h = omega arith

-- an amount is as far below its lower bound, or above its upper one, as it is amiss
reaches : (l h f : ℤ) (m : ℕ) → amiss l h f ≤ m → ((l -ℤ f) ≤ℤ pos m) × ((f -ℤ h) ≤ℤ pos m)
reaches l h f m k = (above_least (l -ℤ f) m (omega arith), above_least (f -ℤ h) m (omega arith))

-- what is within its bounds is not amiss
none_amiss : (l h f : ℤ) → l ≤ℤ f → f ≤ℤ h → amiss l h f ≤ 0
none_amiss l h f p q =
    let a : above_none (l -ℤ f) ≤ 0 = above_most (l -ℤ f) 0 (omega (arith, ints)) in
    let b : above_none (f -ℤ h) ≤ 0 = above_most (f -ℤ h) 0 (omega (arith, ints)) in
    omega (arith, a, b)

within_reach : (l h f : ℤ) → ((l -ℤ f) ≤ℤ pos 0) × ((f -ℤ h) ≤ℤ pos 0) → (l ≤ℤ f) × (f ≤ℤ h)
within_reach l h f k = let a : (l -ℤ f) ≤ℤ pos 0 = k.0 in let b : (f -ℤ h) ≤ℤ pos 0 = k.1 in (omega (arith, ints), omega (arith, ints))

-- an arc within its bounds that comes no further from them stays within them
pub still_holds : (n : Net) (old new : List ℤ) (a : ℕ) → a < length n → IsNearer n old new → Holds n old a → Holds n new a
still_holds n old new a h nearer held =
    let was : amiss (lower_at n a) (upper_at n a) (flow_at old a) ≤ 0 = none_amiss (lower_at n a) (upper_at n a) (flow_at old a) held.0 held.1 in
    let now : amiss (lower_at n a) (upper_at n a) (flow_at new a) ≤ amiss (lower_at n a) (upper_at n a) (flow_at old a) = nearer a h in
    within_reach (lower_at n a) (upper_at n a) (flow_at new a) (reaches (lower_at n a) (upper_at n a) (flow_at new a) 0 (omega (arith, was, now)))

pub above_cases : (z : ℤ) → (above_none z ≡ 0) ⊎ (pos 0 <ℤ z)
above_cases (pos zero) = inl refl
above_cases (pos (suc n)) = inr (omega (arith, ints))
above_cases (negsuc n) = inl refl

first_near : (l h f : ℤ) → pos 0 ≤ℤ l → l ≤ℤ h → h ≤ℤ pos 1000000000 → neg_ℤ (pos (2 ^ 61)) ≤ℤ f → f ≤ℤ pos (2 ^ 61) → amiss l h f ≤ 2 ^ 62
first_near l h f p q r low high =
    let a : above_none (l -ℤ f) ≤ 2 ^ 61 + 1000000000 = above_most (l -ℤ f) (2 ^ 61 + 1000000000) (omega (arith, ints)) in
    let b : above_none (f -ℤ h) ≤ 2 ^ 61 = above_most (f -ℤ h) (2 ^ 61) (omega (arith, ints)) in
    elim (above_cases (f -ℤ h)) [
      | inl e ↦ omega (arith, a, e)
      | inr g ↦ let c : above_none (l -ℤ f) ≤ 0 = above_most (l -ℤ f) 0 (omega (arith, ints)) in omega (arith, b, c)
    ]

-- the flow to begin with
pub first_kept : (nodes : ℕ) (n : Net) (flow : List ℤ) → AreSound nodes n → IsFirst n flow → IsCirculation n flow → IsKept n flow
first_kept nodes n flow sound first balances = record {
  near = record {
    size = first.size;
    near = λ a h. first_near (lower_at n a) (upper_at n a) (flow_at flow a) (sound.lower a h) (sound.bounds a h) (sound.upper a h) (first.small a h).low (first.small a h).high;
  };
  balances = balances;
}

-- a flow that comes nearer is kept
pub still_kept : (n : Net) (old new : List ℤ) → length new ≡ length n → IsCirculation n new → IsNearer n old new → IsKept n old → IsKept n new
still_kept n old new size balances nearer kept = record {
  near = record { size = size; near = λ a h. let was = kept.near.near a h in let now = nearer a h in omega (arith, was, now) };
  balances = balances;
}

-- all arcs hold
pub all_within : (n : Net) (flow : List ℤ) → ((a : ℕ) → a < length n → Holds n flow a) → IsWithin n flow
all_within n flow held = record { above = λ a h. (held a h).0; below = λ a h. (held a h).1 }

-- a step that mends its arc has room
pub mends_room : (nodes : ℕ) (n : Net) (flow : List ℤ) (step : Step) → AreSound nodes n → step.arc < length n → Mends n flow step → pos 0 <ℤ room n flow step
mends_room nodes n flow step sound h (inl m) = subst (λ b. pos 0 <ℤ cond b (flow_at flow step.arc -ℤ lower_at n step.arc) (upper_at n step.arc -ℤ flow_at flow step.arc)) (sym m.0) (below_room (lower_at n step.arc) (upper_at n step.arc) (flow_at flow step.arc) (sound.bounds step.arc h) m.1)
  where
    below_room : (l h f : ℤ) → l ≤ℤ h → f <ℤ l → pos 0 <ℤ (h -ℤ f)
    below_room l h f p q = omega (arith, ints)
mends_room nodes n flow step sound h (inr m) = subst (λ b. pos 0 <ℤ cond b (flow_at flow step.arc -ℤ lower_at n step.arc) (upper_at n step.arc -ℤ flow_at flow step.arc)) (sym m.0) (above_room (lower_at n step.arc) (upper_at n step.arc) (flow_at flow step.arc) (sound.bounds step.arc h) m.1)
  where
    above_room : (l h f : ℤ) → l ≤ℤ h → h <ℤ f → pos 0 <ℤ (f -ℤ l)
    above_room l h f p q = omega (arith, ints)

-- and its arc is out of its bounds
above_some : (z : ℤ) → pos 0 <ℤ z → 1 ≤ above_none z
above_some (pos a) h = omega (arith, ints)
above_some (negsuc a) h = absurd (omega (arith, ints))

mends_amiss : (n : Net) (flow : List ℤ) (step : Step) → Mends n flow step → 1 ≤ amiss_at n flow step.arc
mends_amiss n flow step (inl m) = let some = above_some (lower_at n step.arc -ℤ flow_at flow step.arc) (let less = m.1 in omega (arith, ints, less)) in omega (arith, some)
mends_amiss n flow step (inr m) = let some = above_some (flow_at flow step.arc -ℤ upper_at n step.arc) (let less = m.1 in omega (arith, ints, less)) in omega (arith, some)

amount_some : (z : ℤ) (m : ℕ) → z ≡ pos m → 1 ≤ m → m ≤ 2 ^ 62 → pos 0 <ℤ to_z w64 (of_z w64 z)
amount_some z m is some few = omega (arith, ints)

-- the amount by which it is so, as the code hands it on
pub fault_some : (n : Net) (flow : List ℤ) (step : Step) (a : ℕ) (z : ℤ) → IsKept n flow → a < length n → step.arc ≡ a → Mends n flow step → z ≡ pos (amiss_at n flow a) → pos 0 <ℤ to_z w64 (of_z w64 z)
fault_some n flow step a z kept within same mends is = amount_some z (amiss_at n flow a) is (subst (λ b. 1 ≤ amiss_at n flow b) same (mends_amiss n flow step mends)) (kept.near.near a within)
