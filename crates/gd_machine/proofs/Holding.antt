-- The headline: what is published is best, what is declared is impossible, Timely never is, and each nomination is counted once.
use Rattle.std.proofs.Common.{◌≡◌, ℕ, zero, suc, ◌<◌, ◌≤◌, take, refl, arith}
use Rattle.gd_machine.specs.Day.{Day, IsDay}
use Rattle.gd_machine.specs.History.{History, cycle_of}
use Rattle.gd_machine.specs.Machine.{IsLegal, AllPass}
use Rattle.gd_machine.specs.Headline.{Headline, DeclaresImpossible, SparesTimely}
use Rattle.gd_machine.proofs.Legal.{published_is_best}
use Rattle.gd_machine.proofs.ImpossibleCycles.{declared_is_impossible, timely_is_not_declared}
use Rattle.gd_machine.proofs.FormerFreezes.{freezes_each, asks_frozen}
use Rattle.gd_machine.proofs.FrozenIntakes.{closes_intakes}
use Rattle.gd_machine.proofs.Intakes.{stands_in_one}
use Rattle.gd_machine.proofs.Sound.{prefix_sound}
use Rattle.gd_machine.proofs.QuestionLines.{has_lines}

declares : (day : Day) (h : History) → IsDay day → IsLegal day h → AllPass h → DeclaresImpossible day h
declares day h is_day legal pass k moment round cut reply at =
    declared_is_impossible day h legal k moment round cut reply (has_lines day is_day (take k h) (prefix_sound day is_day h legal pass k)) at

spares : (day : Day) (h : History) → IsLegal day h → SparesTimely h
spares day h legal k moment round cut reply at =
    above (cycle_of (take k h)) (omega arith) (timely_is_not_declared day h legal k moment round cut reply at)
  where
    above : (c : ℕ) → 1 ≤ c → (c ≡ 1 → ⊥) → 1 < c
    above zero some apart = absurd (omega (arith, some))
    above (suc zero) some apart = absurd (apart refl)
    above (suc (suc c)) some apart = omega arith

pub headline : Headline
headline day h is_day legal pass = record {
  published = published_is_best day h legal pass;
  declared = declares day h is_day legal pass;
  timely = spares day h legal;
  counted = (stands_in_one day h legal, closes_intakes day h is_day legal, freezes_each day h legal, asks_frozen day h legal);
}
