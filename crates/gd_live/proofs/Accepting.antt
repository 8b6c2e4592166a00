-- What a book may accept.
use Rattle.std.proofs.Common.{◌≡◌, ◌≢◌, ℕ, ◌+◌, Bool, true, false, not, inr, List, [], ◌∷◌, ◌++◌, length, None, Ok, Err, refl, ap, ◌∙◌, arith, pos, ◌<◌}
use Rattle.std.specs.Prelude.{◌-ℤ◌, ◌<ℤ◌}
use Rattle.std.specs.List.{AllByRecursion}
use Rattle.std.proofs.lemmas.Bool.{eq-eqb, lt-ltb}
use Rattle.std.proofs.lemmas.Int.{ints}
use Rattle.std.proofs.lemmas.List.{length-append}
use Rattle.gd_rules.specs.Question.{Question}
use Rattle.gd_rules.specs.Cut.{Side, IsCut, must_leave, may_enter, can_leave}
use Rattle.gd_system.specs.Pipeline.{Pipeline}
use Rattle.gd_certificate.specs.Checked.{IsRight}
use Rattle.gd_certificate.specs.Cutting.{Members, side_of}
use Rattle.gd_certificate.specs.Explained.{IsShaped, Cuts}
use Rattle.gd_machine.specs.declared.event.Event.{Event}
use Rattle.gd_machine.specs.declared.event.Event.TheVariants as event
use Rattle.gd_machine.specs.declared.reply.Reply.{Reply as BookReply}
use Rattle.gd_machine.specs.declared.refusal.Refusal.{Refusal}
use Rattle.gd_machine.specs.declared.refusal.Refusal.TheVariants.{OutOfMemory}
use Rattle.gd_machine.specs.Day.{Day}
use Rattle.gd_machine.specs.History.{History, is_frozen, round_of}
use Rattle.gd_machine.specs.Asking.{question}
use Rattle.gd_machine.specs.Machine.{first, tests_of, refusal_of, reply_of, is_full, is_shaped, is_cut}
use Rattle.gd_machine.proofs.Same.{same_self}
use Rattle.gd_text_part.specs.declared.row.EventRow.TheVariants as row
use Rattle.gd_text_part.specs.declared.row.Row.{Row}
use Rattle.gd_text.specs.Members.{members_of}
use Rattle.gd_day.specs.Groups.{Passes}
use Rattle.gd_machine.specs.declared.call.Call.{Call}
use Rattle.gd_machine.specs.declared.call.Call.TheVariants as call
use Rattle.gd_replies.specs.declared.reply.Reply.{Reply}
use Rattle.gd_course.specs.CallRows.{Steps, accepted_rows}
use Rattle.gd_course.specs.Course.{Tariffs, Offers, certificate_of}
use Rattle.gd_live.specs.Lines.{IsAcceptable}

-- no refusal applies
over : (t : Bool × Refusal) (tests : List (Bool × Refusal)) → t.0 ≡ false → first (t ∷ tests) ≡ first tests
over (false, r) tests is = refl
over (true, r) tests is = cc

none_applies : (tests : List (Bool × Refusal)) → AllByRecursion (λ (t : Bool × Refusal). t.0 ≡ false) tests → first tests ≡ None
none_applies [] all = refl
none_applies (t ∷ tests) all = over t tests all.0 ∙ none_applies tests all.1

one_more : (h : History) (p : Event × BookReply) → h ++ p ∷ [] ≢ h
one_more h p same = let n = ap length same in absurd (omega (arith, n, length-append h (p ∷ [])))

-- what no refusal applies to may be accepted
pub record Accepted (k : Call) (day : Day) (h : History) (v : Event) : Type 0 where
  told : List Reply
  after : History
  steps : Steps k day h v told after
  grows : after ≢ h

accepted : (k : Call) (day : Day) (h : History) (v : Event) → refusal_of day h v ≡ None → Accepted k day h v
accepted k day h v none =
    let r : BookReply = reply_of day h v in
    let after : History = h ++ (v, r) ∷ [] in
    record {
      told = accepted_rows day after v r;
      after = after;
      steps = (Ok r, ((none, refl), refl), (λ e. let bad : Ok r ≡ Err OutOfMemory = e in cc), refl);
      grows = one_more h (v, r);
    }

shaped : (p : Pipeline) (cut : Members) → IsShaped p cut → is_shaped p cut ≡ true
shaped p cut is = rw (eq-eqb _ _ is.0) (rw (eq-eqb _ _ is.1) (eq-eqb _ _ is.2))

above : (a b c : ℕ) → pos 0 <ℤ ((pos a -ℤ pos b) -ℤ pos c) → b + c < a
above a b c more = omega (arith, ints)

cut_told : (q : Question) (side : Side) → IsCut q side → is_cut q side ≡ true
cut_told q side more =
    lt-ltb (may_enter q side + can_leave q side) (must_leave q side) (above (must_leave q side) (may_enter q side) (can_leave q side) more)

module _ (day : Day) (h : History) (moment n : ℕ) (group : List Row) (frozen : is_frozen h ≡ true) (room : is_full h ≡ false) (is : n ≡ round_of h) (passes : Passes day.holdings.pipeline group) where
  -- what shows the frozen question's schedule best may be published
  pub published : (schedule : List ℕ) (prices : Tariffs) → Offers day.holdings.pipeline group schedule prices → IsRight (certificate_of day h schedule prices)
      → IsAcceptable day h group (row.Publish moment n)
  published schedule prices offers right =
      let v : Event = event.Publish moment (certificate_of day h schedule prices) in
      let none = none_applies (tests_of day h v) (ap not frozen, (ap not (eq-eqb (round_of h) (round_of h) refl), (ap not (same_self (question day h)), (room, tt)))) in
      let it = accepted call.Publish day h v none in
      record { passes = passes; told = it.told; after = it.after; gives = inr (inr (frozen, is, (schedule, prices, offers, inr (right, it.steps)))); grows = it.grows }

  -- a cut of it may be declared
  pub declared : (cut : Members) → members_of group day.holdings.pipeline ≡ Ok cut → IsShaped day.holdings.pipeline cut → Cuts (question day h) cut → IsAcceptable day h group (row.Declare moment n)
  declared cut made shape cuts =
      let v : Event = event.Declare moment n cut in
      let cut_off = cut_told (question day h).asked (side_of day.holdings.pipeline cut) cuts in
      let none = none_applies (tests_of day h v) (ap not frozen, (ap not (eq-eqb n (round_of h) is), (ap not (shaped day.holdings.pipeline cut shape), (ap not cut_off, (room, tt))))) in
      let it = accepted call.Declare day h v none in
      record { passes = passes; told = it.told; after = it.after; gives = (cut, made, it.steps); grows = it.grows }
