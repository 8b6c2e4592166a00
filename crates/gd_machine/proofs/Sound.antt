-- What holds of every legal history whose certificates passed the check.
use Rattle.std.proofs.Common.{◌≡◌, ℕ, ◌-◌, ◌≤◌, Bool, true, false, length, take, Option, Some, None, refl, subst, ap, arith, cond}
use Rattle.std.specs.Prelude.{◌==◌}
use Rattle.std.proofs.lemmas.Bool.{eqb-true}
use Rattle.gd_rules.specs.Bounds as bounds
use Rattle.gd_rules.specs.GasDay as gas_day
use Rattle.gd_units.specs.declared.service.End.TheVariants.{Origin, Dest}
use Rattle.gd_machine.specs.Day.{Day, IsDay, length_of, carried}
use Rattle.gd_machine.specs.History.{History, cycle_of, scheduled, response_of, is_waived}
use Rattle.gd_machine.specs.Asking.{key_of, nominated_of, former_of, elapsed_of, confirmed_of, floor_of, class_of}
use Rattle.gd_machine.specs.Known.{IsSound}
use Rattle.gd_machine.specs.Machine.{IsLegal, AllPass}
use Rattle.gd_machine.proofs.Nominations.{prefix_routed, prefix_classed, prefix_in_day, prefix_rising}
use Rattle.gd_machine.proofs.Staying.{frozen_past}
use Rattle.gd_machine.proofs.Flowing.{Flows, prefix_flows, covers}
use Rattle.std.proofs.lemmas.List.{take_all}

-- ---- bounds

later_covers : (nominated : ℕ) (origin dest : Option ℕ) (former elapsed : ℕ) → elapsed ≤ former → elapsed ≤ bounds.later_confirmed nominated origin dest former elapsed
later_covers nominated (Some origin) (Some dest) former elapsed h = omega arith
later_covers nominated (Some origin) None former elapsed h = h
later_covers nominated None dest former elapsed h = h

confirmed_covers : (cycle nominated : ℕ) (origin dest : Option ℕ) (former elapsed : ℕ) → elapsed ≤ former → (cycle ≡ 1 → elapsed ≡ 0) → elapsed ≤ bounds.confirmed cycle nominated origin dest former elapsed
confirmed_covers cycle nominated origin dest former elapsed h first = go (cycle == 1) refl
  where
    go : (b : Bool) → (cycle == 1) ≡ b → elapsed ≤ cond b (bounds.timely_confirmed nominated origin dest former) (bounds.later_confirmed nominated origin dest former elapsed)
    go true e = let none = first (eqb-true cycle 1 e) in omega (arith, none)
    go false e = later_covers nominated origin dest former elapsed h

floor_within : (protected : Bool) (elapsed former confirmed : ℕ) → elapsed ≤ confirmed → bounds.floor protected elapsed former confirmed ≤ confirmed
floor_within true elapsed former confirmed h = omega (arith, h)
floor_within false elapsed former confirmed h = h

module _ (day : Day) (is_day : IsDay day) where
  first_elapsed : (h : History) (line : ℕ) → cycle_of h ≡ 1 → elapsed_of day h line ≡ 0
  first_elapsed h line e = ap (bounds.elapsed gas_day.hours_over (length_of day) (scheduled h line)) e

  former_covers : (h : History) → Flows day h → (line : ℕ) → elapsed_of day h line ≤ former_of day h line
  former_covers h flows line = go (cycle_of h == 1) refl
    where
      go : (b : Bool) → (cycle_of h == 1) ≡ b → elapsed_of day h line ≤ cond b (carried day (key_of day h line)) (scheduled h line (cycle_of h - 1))
      go true e = let none = first_elapsed h line (eqb-true (cycle_of h) 1 e) in omega (arith, none)
      go false e = covers day is_day h flows line

  confirmed_above : (h : History) → Flows day h → (line : ℕ) → elapsed_of day h line ≤ confirmed_of day h line
  confirmed_above h flows line =
      confirmed_covers (cycle_of h) (nominated_of day h line) (response_of h line Origin) (response_of h line Dest) (former_of day h line) (elapsed_of day h line) (former_covers h flows line) (first_elapsed h line)

  floor_below : (h : History) → Flows day h → (line : ℕ) → floor_of day h line ≤ confirmed_of day h line
  floor_below h flows line = floor_within (bounds.protected (cycle_of h) (class_of day h line) (is_waived h line)) (elapsed_of day h line) (former_of day h line) (confirmed_of day h line) (confirmed_above h flows line)

  -- it holds after each of its events
  pub prefix_sound : (h : History) → IsLegal day h → AllPass h → (n : ℕ) → IsSound day (take n h)
  prefix_sound h legal pass n =
      let flows = prefix_flows day is_day h legal pass n in
      record {
        routed = prefix_routed day is_day h legal n;
        classed = prefix_classed day is_day h legal n;
        rising = prefix_rising day h legal n;
        in_day = prefix_in_day day h legal n;
        past = frozen_past day is_day h legal n;
        flowing = λ line c low high. flows.flowing line c low high;
        covered = former_covers (take n h) flows;
        bounded = floor_below (take n h) flows;
      }

  pub sound : (h : History) → IsLegal day h → AllPass h → IsSound day h
  sound h legal pass = subst (IsSound day) (take_all (length h) h (omega arith)) (prefix_sound h legal pass (length h))
