-- Where a cycle is declared impossible no schedule is allowed, and Timely never is.
use Rattle.std.proofs.Common.{◌≡◌, ℕ, suc, zero, ◌+◌, ◌<◌, Bool, true, false, nat_lt, List, [], ◌∷◌, map, get_or, take, Ok, Err, Result, arith, refl, sym, subst}
use Rattle.std.specs.Prelude.{pos, ◌-ℤ◌, ◌<ℤ◌}
use Rattle.std.proofs.lemmas.Bool.{ltb-true}
use borrow.Author.Differences.{ints}
use Rattle.std.specs.List.{range_with_len}
use Rattle.gd_rules.specs.Bounds as bounds
use Rattle.gd_rules.specs.GasDay as gas_day
use Rattle.gd_rules.specs.Question.{Question, Line, line, no_line}
use Rattle.gd_rules.specs.Tree.{HasLines}
use Rattle.gd_rules.specs.Cut.{Side, IsCut, must_leave, may_enter, can_leave}
use Rattle.gd_rules.specs.Schedule.{IsAllowed}
use Rattle.gd_rules.proofs.Cuts.{cut_forbids}
use Rattle.gd_rules.proofs.NoFloors.{no_cut}
use Rattle.gd_system.specs.Pipeline.{Pipeline}
use Rattle.gd_system.specs.declared.part.Ends.{Ends}
use Rattle.gd_system.specs.declared.RouteFault.{RouteFault}
use Rattle.gd_certificate.specs.Cutting.{Members, side_of}
use Rattle.gd_machine.specs.declared.event.Event.TheVariants.{Declare}
use Rattle.gd_machine.specs.declared.reply.Reply.{Reply}
use Rattle.gd_machine.specs.Day.{Day, length_of}
use Rattle.gd_machine.specs.History.{History, cycle_of, scheduled, is_waived}
use Rattle.gd_machine.specs.Asking.{question, line_over, line_of, line_count, floor_of, class_of, former_of, confirmed_of}
use Rattle.gd_machine.specs.Machine.{IsLegal, tests_of, cuts, is_cut}
use Rattle.gd_machine.specs.Headline.{IsAt}
use Rattle.gd_machine.proofs.Legal.{all_false, not_false}

above : (a b c : ℕ) → b + c < a → pos 0 <ℤ ((pos a -ℤ pos b) -ℤ pos c)
above a b c e = omega (arith, ints)

less : (a b : ℕ) → nat_lt a b ≡ true → a < b
less a b e = ltb-true a b e

pub cut_told : (q : Question) (side : Side) → is_cut q side ≡ true → IsCut q side
cut_told q side e = above (must_leave q side) (may_enter q side) (can_leave q side) (less (may_enter q side + can_leave q side) (must_leave q side) e)

-- the set of an accepted declare is a cut of its question
pub declared_cuts : (day : Day) (h : History) → IsLegal day h → (k moment round : ℕ) (cut : Members) (reply : Reply) → IsAt h k (Declare moment round cut, reply) → IsCut (question day (take k h)).asked (side_of day.holdings.pipeline cut)
declared_cuts day h legal k moment round cut reply at =
    let accepted = legal k (Declare moment round cut, reply) at in
    let tests = all_false (tests_of day (take k h) (Declare moment round cut)) accepted.0 in
    cut_told (question day (take k h)).asked (side_of day.holdings.pipeline cut) (not_false (cuts (question day (take k h)) cut) tests.1.1.1.0)

-- where the question's lines are lines of the pipeline
pub declared_is_impossible : (day : Day) (h : History) → IsLegal day h → (k moment round : ℕ) (cut : Members) (reply : Reply) → HasLines (question day (take k h)).asked → IsAt h k (Declare moment round cut, reply) → (schedule : List ℕ) → IsAllowed (question day (take k h)).asked schedule → ⊥
declared_is_impossible day h legal k moment round cut reply lines at schedule allowed =
    cut_forbids (question day (take k h)).asked (side_of day.holdings.pipeline cut) schedule lines (declared_cuts day h legal k moment round cut reply at) allowed

-- ---- Timely

timely_floor : (passed : ℕ → ℕ) (hours : ℕ) (s : ℕ → ℕ) (class : ℕ) (waived : Bool) (former confirmed c : ℕ) → c ≡ 1 → bounds.line_floor c class waived (bounds.elapsed passed hours s c) former confirmed ≡ 0
timely_floor passed hours s class waived former confirmed c e = subst (λ n. bounds.line_floor n class waived (bounds.elapsed passed hours s n) former confirmed ≡ 0) (sym e) (at waived)
  where
    at : (w : Bool) → bounds.line_floor 1 class w (bounds.elapsed passed hours s 1) former confirmed ≡ 0
    at true = refl
    at false = refl

over_floor : (p : Pipeline) (ends : Result Ends RouteFault) (class floor ceiling : ℕ) → floor ≡ 0 → (line_over p ends class floor ceiling).floor ≡ 0
over_floor p (Ok ends) class floor ceiling e = e
over_floor p (Err fault) class floor ceiling e = refl

-- what holds of all values and of the default holds of each entry
each_mapped : (f : ℕ → Line) (ns : List ℕ) → ((n : ℕ) → (f n).floor ≡ 0) → (i : ℕ) → (get_or (map f ns) i no_line).floor ≡ 0
each_mapped f [] h i = refl
each_mapped f (n ∷ ns) h zero = h n
each_mapped f (n ∷ ns) h (suc i) = each_mapped f ns h i

pub timely_has_no_floors : (day : Day) (h : History) → cycle_of h ≡ 1 → (i : ℕ) → (line (question day h).asked i).floor ≡ 0
timely_has_no_floors day h e i = each_mapped (λ n. line_of day h n) (range_with_len 0 (line_count day h)) (λ n. over_floor day.holdings.pipeline _ _ (floor_of day h n) _ (timely_floor gas_day.hours_over (length_of day) (scheduled h n) (class_of day h n) (is_waived h n) (former_of day h n) (confirmed_of day h n) (cycle_of h) e)) i

pub timely_is_not_declared : (day : Day) (h : History) → IsLegal day h → (k moment round : ℕ) (cut : Members) (reply : Reply) → IsAt h k (Declare moment round cut, reply) → cycle_of (take k h) ≡ 1 → ⊥
timely_is_not_declared day h legal k moment round cut reply at e =
    no_cut (question day (take k h)).asked (side_of day.holdings.pipeline cut) (λ i k'. timely_has_no_floors day (take k h) e i) (declared_cuts day h legal k moment round cut reply at)
