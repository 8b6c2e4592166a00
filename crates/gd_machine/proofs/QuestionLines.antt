-- The lines of each question lead from one end to another over their routes, and their numbers are within bounds.
use Rattle.std.proofs.Common.{◌≡◌, ℕ, zero, suc, ◌<◌, ◌≤◌, List, [], ◌∷◌, length, get_or, set, refl, sym, subst, ap, ◌∙◌}
use Rattle.gd_rules.specs.Question.{Element, place_of}
use Rattle.gd_rules.specs.Question.Element.{Segment, Receipt, Delivery, Pool}
use Rattle.gd_rules.specs.Tree.{IsLine, HasLines, IsRoute}
use Rattle.gd_rules.specs.Limits.{classes}
use Rattle.gd_tree.specs.Grown.{route_of}
use Rattle.gd_tree.proofs.Directions.{routes}
use Rattle.gd_system.specs.Pipeline.{Pipeline, elements_of}
use Rattle.gd_system.specs.Ends.{AreEnds}
use Rattle.gd_system.specs.declared.part.Ends.{Ends}
use Rattle.gd_system.proofs.NamedEnds.{told_are}
use Rattle.gd_question.specs.Posing.{line_between}
use Rattle.gd_question.specs.InForce.{with_limit}
use Rattle.gd_question.proofs.InForceLemmas.{Alike, place-alike, sends-alike, takes-alike, follows-alike}
use Rattle.gd_machine.specs.declared.event.Event.{Event}
use Rattle.gd_machine.specs.declared.event.Event.TheVariants.{PostCapacity}
use Rattle.gd_machine.specs.Day.{Day, IsDay}
use Rattle.gd_machine.specs.History.{History, elements_after, elements_in_force}
use Rattle.gd_machine.specs.Asking.{line_count, key_of, class_of, floor_of, confirmed_of, line_over, line_of, question}
use Rattle.gd_machine.specs.Known.{IsRouted, IsClassed, IsSound}
use Rattle.gd_machine.proofs.Flowing.{key_holds, question_length, question_line}

-- ---- capacities

-- as many elements, which differ in their capacities alone
abbrev pub AreAlike : List Element → List Element → Type 0
AreAlike some other = (length some ≡ length other) × ((k : ℕ) → Alike (get_or some k (Pool 0)) (get_or other k (Pool 0)))

limit_twice : (e : Element) (x : ℕ) → Alike (with_limit e x) e
limit_twice (Segment from to capacity) x = refl
limit_twice (Receipt place capacity) x = refl
limit_twice (Delivery place capacity) x = refl
limit_twice (Pool place) x = refl

set_length : (elements : List Element) (k : ℕ) (e : Element) → length (set elements k e) ≡ length elements
set_length [] k e = refl
set_length (x ∷ elements) zero e = refl
set_length (x ∷ elements) (suc k) e = ap suc (set_length elements k e)

set_alike : (elements : List Element) (k : ℕ) (e : Element) → Alike e (get_or elements k (Pool 0)) → (i : ℕ) → Alike (get_or (set elements k e) i (Pool 0)) (get_or elements i (Pool 0))
set_alike [] k e same i = refl
set_alike (x ∷ elements) zero e same zero = same
set_alike (x ∷ elements) zero e same (suc i) = refl
set_alike (x ∷ elements) (suc k) e same zero = refl
set_alike (x ∷ elements) (suc k) e same (suc i) = set_alike elements k e same i

after_alike : (elements : List Element) (event : Event) → AreAlike (elements_after elements event) elements
after_alike elements (PostCapacity moment element capacity) =
    let e = with_limit (get_or elements element.0 (Pool 0)) capacity in
    (set_length elements element.0 e, set_alike elements element.0 e (limit_twice (get_or elements element.0 (Pool 0)) capacity))
after_alike elements event = (refl, λ k. refl)

pub in_force_alike : (elements : List Element) (h : History) → AreAlike (elements_in_force elements h) elements
in_force_alike elements [] = (refl, λ k. refl)
in_force_alike elements (p ∷ h) =
    let one = after_alike elements p.0 in
    let rest = in_force_alike (elements_after elements p.0) h in
    (rest.0 ∙ one.0, λ k. rest.1 k ∙ one.1 k)

-- ---- lines

module _ (day : Day) (is_day : IsDay day) (h : History) where
  abbrev pipe : Pipeline
  pipe = day.holdings.pipeline

  abbrev elements : List Element
  elements = elements_in_force (elements_of pipe) h

  ends_line : (ends : Ends) (class floor ceiling : ℕ) → AreEnds pipe ends → (1 ≤ class) × (class ≤ classes) → floor ≤ ceiling → IsLine (question day h).asked (line_between pipe ends class floor ceiling)
  ends_line ends class floor ceiling a classed bounds =
      let s = is_day.holdings.system in
      let alike = in_force_alike (elements_of pipe) h in
      let from : place_of (get_or elements ends.origin.0 (Pool 0)) ≡ ends.origin_place.0 = place-alike _ _ (alike.1 ends.origin.0) ∙ a.origin_hangs in
      let to : place_of (get_or elements ends.dest.0 (Pool 0)) ≡ ends.dest_place.0 = place-alike _ _ (alike.1 ends.dest.0) ∙ a.dest_hangs in
      let found = (routes (elements_of pipe) (length pipe.tree) ends.origin_place.0 ends.dest_place.0 s.grown a.origin_placed a.dest_placed).0 a.routed in
      let way : IsRoute elements ends.origin_place.0 (route_of (elements_of pipe) (length pipe.tree) ends.origin_place.0 ends.dest_place.0) ends.dest_place.0 =
      (found.0, found.1, follows-alike elements (elements_of pipe) alike.1 ends.origin_place.0 found.0 ends.dest_place.0 found.2, found.3) in
      record {
        origin_known = subst (λ n. ends.origin.0 < n) (sym alike.0) a.origin_known;
        dest_known = subst (λ n. ends.dest.0 < n) (sym alike.0) a.dest_known;
        sends = sends-alike _ _ (alike.1 ends.origin.0) a.sends;
        takes = takes-alike _ _ (alike.1 ends.dest.0) a.takes;
        apart = a.apart;
        routed = subst (λ x. IsRoute elements x (line_between pipe ends class floor ceiling).route (place_of (get_or elements ends.dest.0 (Pool 0)))) (sym from)
            (subst (λ y. IsRoute elements ends.origin_place.0 (line_between pipe ends class floor ceiling).route y) (sym to) way);
        bounds = bounds;
        classed = classed;
      }

  sound_line : IsSound day h → (i : ℕ) → i < line_count day h → IsLine (question day h).asked (line_of day h i)
  sound_line sound i k =
      let routed = key_holds day h (IsRouted day) sound.routed i k in
      let classed = key_holds day h (IsClassed day) sound.classed i k in
      let ends = told_are pipe is_day.holdings.system (key_of day h i).origin (key_of day h i).dest routed.0 routed.1 in
      subst (λ r. IsLine (question day h).asked (line_over pipe r (class_of day h i) (floor_of day h i) (confirmed_of day h i))) (sym routed.1)
      (ends_line routed.0 (class_of day h i) (floor_of day h i) (confirmed_of day h i) ends (classed.1, classed.2) (sound.bounded i))

  pub has_lines : IsSound day h → HasLines (question day h).asked
  has_lines sound i k =
      let within : i < line_count day h = subst (λ n. i < n) (question_length day h) k in
      subst (IsLine (question day h).asked) (sym (question_line day h i within)) (sound_line sound i within)
