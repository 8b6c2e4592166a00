-- How much steps can carry.
use Rattle.std.proofs.Common.{◌≡◌, ℕ, suc, ◌<◌, ◌≤◌, ◌^◌, List, [], ◌∷◌, length, map, arith, refl, sym, ◌∙◌, ap, subst, inl, inr, true, false, cond, to_z, of_z}
use Rattle.std.specs.Prelude.{ℤ, pos, negsuc, ◌-ℤ◌, ◌≤ℤ◌, ◌<ℤ◌, FitsSigned}
use Rattle.std.specs.Int.{int_min, w64}
use borrow.Author.Differences.{ints}
use Rattle.std.proofs.lemmas.Bool.{cases_lt}
use Rattle.std.proofs.lemmas.Int.{clamps, fold-int_min_bounds, to_z-of_z}
use Rattle.std.proofs.lemmas.List.{get_or_past, length-map, get_or-map}
use Rattle.gd_network.specs.Arcs.{Net, arc_at, lower_at, upper_at}
use Rattle.gd_network.specs.Beginning.{AreSound}
use Rattle.gd_network.specs.Flow.{flow_at, IsWithin}
use Rattle.gd_network.specs.declared.arcs.Arc.{Arc}
use Rattle.gd_network.specs.declared.walks.Step.{Step}
use Rattle.gd_network.specs.Steps.{above_none, amiss, room, least_room, HasRooms, IsNear}
use Rattle.gd_network.proofs.Pushes.{is_amiss}

above_least : (z : ℤ) (m : ℕ) → above_none z ≤ m → z ≤ℤ pos m
above_least (pos a) m h = omega (arith, ints)
above_least (negsuc a) m h = omega (arith, ints)

-- an amount is as far below its lower bound, or above its upper one, as it is amiss
reaches : (l h f : ℤ) (m : ℕ) → amiss l h f ≤ m → ((l -ℤ f) ≤ℤ pos m) × ((f -ℤ h) ≤ℤ pos m)
reaches l h f m k = (above_least (l -ℤ f) m (omega arith), above_least (f -ℤ h) m (omega arith))

pub near_within : (n : Net) (flow : List ℤ) → length flow ≡ length n → IsWithin n flow → IsNear n flow
near_within n flow size within = record {
  size = size;
  near = λ a h. let none = is_amiss (lower_at n a) (upper_at n a) (flow_at flow a) (within.above a h) (within.below a h) in omega (arith, none);
}

far_fits : (l h f : ℤ) → pos 0 ≤ℤ l → l ≤ℤ h → h ≤ℤ pos 1000000000 → ((l -ℤ f) ≤ℤ pos (2 ^ 62)) × ((f -ℤ h) ≤ℤ pos (2 ^ 62)) → FitsSigned w64 f
far_fits l h f p q r k = let a : (l -ℤ f) ≤ℤ pos (2 ^ 62) = k.0 in let b : (f -ℤ h) ≤ℤ pos (2 ^ 62) = k.1 in grind (arith, ints)

nothing_fits : FitsSigned w64 (pos 0)
nothing_fits = grind (arith, ints)

-- each amount is a number of the machine
pub amounts_fit : (nodes : ℕ) (n : Net) (flow : List ℤ) → AreSound nodes n → IsNear n flow → (a : ℕ) → FitsSigned w64 (flow_at flow a)
amounts_fit nodes n flow sound near a = elim (cases_lt a (length n)) [
  | inl h ↦ far_fits (lower_at n a) (upper_at n a) (flow_at flow a) (sound.lower a h) (sound.bounds a h) (sound.upper a h) (reaches (lower_at n a) (upper_at n a) (flow_at flow a) (2 ^ 62) (near.near a h))
  | inr h ↦ subst (FitsSigned w64) (sym (get_or_past flow a (pos 0) (let e : length flow ≡ length n = near.size in omega arith))) nothing_fits
]

-- and so are its distances from both bounds
far_rooms : (l h f : ℤ) → pos 0 ≤ℤ l → l ≤ℤ h → h ≤ℤ pos 1000000000 → ((l -ℤ f) ≤ℤ pos (2 ^ 62)) × ((f -ℤ h) ≤ℤ pos (2 ^ 62)) → FitsSigned w64 (f -ℤ l) × FitsSigned w64 (h -ℤ f)
far_rooms l h f p q r k = let a : (l -ℤ f) ≤ℤ pos (2 ^ 62) = k.0 in let b : (f -ℤ h) ≤ℤ pos (2 ^ 62) = k.1 in (grind (arith, ints), grind (arith, ints))

rooms_fit : (nodes : ℕ) (n : Net) (flow : List ℤ) → AreSound nodes n → IsNear n flow → (a : ℕ) → a < length n → FitsSigned w64 (flow_at flow a -ℤ lower_at n a) × FitsSigned w64 (upper_at n a -ℤ flow_at flow a)
rooms_fit nodes n flow sound near a h = far_rooms (lower_at n a) (upper_at n a) (flow_at flow a) (sound.lower a h) (sound.bounds a h) (sound.upper a h) (reaches (lower_at n a) (upper_at n a) (flow_at flow a) (2 ^ 62) (near.near a h))

low_fits : (l h : ℤ) → pos 0 ≤ℤ l → l ≤ℤ h → h ≤ℤ pos 1000000000 → FitsSigned w64 l × FitsSigned w64 h
low_fits l h p q r = (grind (arith, ints), grind (arith, ints))

-- what the code reads and takes from another is the room
module _ (nodes : ℕ) (n : Net) (flow : List ℤ) (step : Step) (arc : Arc) (sound : AreSound nodes n) (near : IsNear n flow) (within : step.arc < length n) (is : arc ≡ arc_at n step.arc) where
  pub room_back : step.back ≡ true → to_z w64 (of_z w64 (to_z w64 (of_z w64 (flow_at flow step.arc)) -ℤ to_z w64 (of_z w64 arc.lower))) ≡ room n flow step
  room_back e =
      let bound = low_fits (lower_at n step.arc) (upper_at n step.arc) (sound.lower step.arc within) (sound.bounds step.arc within) (sound.upper step.arc within) in
      subst (λ (x : Arc). to_z w64 (of_z w64 (to_z w64 (of_z w64 (flow_at flow step.arc)) -ℤ to_z w64 (of_z w64 x.lower))) ≡ room n flow step) (sym is)
      (subst (λ b. to_z w64 (of_z w64 (to_z w64 (of_z w64 (flow_at flow step.arc)) -ℤ to_z w64 (of_z w64 (lower_at n step.arc)))) ≡ cond b (flow_at flow step.arc -ℤ lower_at n step.arc) (upper_at n step.arc -ℤ flow_at flow step.arc)) (sym e)
      (ap (λ z. to_z w64 (of_z w64 (z -ℤ to_z w64 (of_z w64 (lower_at n step.arc))))) (to_z-of_z w64 (flow_at flow step.arc) (amounts_fit nodes n flow sound near step.arc))
      ∙ ap (λ z. to_z w64 (of_z w64 (flow_at flow step.arc -ℤ z))) (to_z-of_z w64 (lower_at n step.arc) bound.0)
      ∙ to_z-of_z w64 (flow_at flow step.arc -ℤ lower_at n step.arc) (rooms_fit nodes n flow sound near step.arc within).0))

  pub room_along : step.back ≡ false → to_z w64 (of_z w64 (to_z w64 (of_z w64 arc.upper) -ℤ to_z w64 (of_z w64 (flow_at flow step.arc)))) ≡ room n flow step
  room_along e =
      let bound = low_fits (lower_at n step.arc) (upper_at n step.arc) (sound.lower step.arc within) (sound.bounds step.arc within) (sound.upper step.arc within) in
      subst (λ (x : Arc). to_z w64 (of_z w64 (to_z w64 (of_z w64 x.upper) -ℤ to_z w64 (of_z w64 (flow_at flow step.arc)))) ≡ room n flow step) (sym is)
      (subst (λ b. to_z w64 (of_z w64 (to_z w64 (of_z w64 (upper_at n step.arc)) -ℤ to_z w64 (of_z w64 (flow_at flow step.arc)))) ≡ cond b (flow_at flow step.arc -ℤ lower_at n step.arc) (upper_at n step.arc -ℤ flow_at flow step.arc)) (sym e)
      (ap (λ z. to_z w64 (of_z w64 (z -ℤ to_z w64 (of_z w64 (flow_at flow step.arc))))) (to_z-of_z w64 (upper_at n step.arc) bound.1)
      ∙ ap (λ z. to_z w64 (of_z w64 (upper_at n step.arc -ℤ z))) (to_z-of_z w64 (flow_at flow step.arc) (amounts_fit nodes n flow sound near step.arc))
      ∙ to_z-of_z w64 (upper_at n step.arc -ℤ flow_at flow step.arc) (rooms_fit nodes n flow sound near step.arc within).1))

-- ---- the least room

pub has_rooms : (n : Net) (flow : List ℤ) (walk : List Step) (most : ℤ) → HasRooms n flow walk (least_room n flow walk most)
has_rooms n flow walk most k d h =
    let size : length (map (room n flow) walk) ≡ length walk = length-map walk (room n flow) in
    subst (λ z. least_room n flow walk most ≤ℤ z) (get_or-map (room n flow) walk k d (pos 0) h)
    ((fold-int_min_bounds most (map (room n flow) walk) (least_room n flow walk most) refl).1 k (pos 0) (omega (arith, size, h)))

min_some : (x y : ℤ) → pos 0 <ℤ x → pos 1 ≤ℤ y → pos 0 <ℤ int_min x y
min_some x y h k = omega (arith, ints, clamps)

pub some_least : (n : Net) (flow : List ℤ) (walk : List Step) (most : ℤ) → pos 0 <ℤ most → HasRooms n flow walk (pos 1) → pos 0 <ℤ least_room n flow walk most
some_least n flow [] most h rooms = h
some_least n flow (step ∷ walk) most h rooms = some_least n flow walk (int_min most (room n flow step)) (min_some most (room n flow step) h (rooms 0 step (omega arith))) (λ k d g. rooms (suc k) d (omega arith))
