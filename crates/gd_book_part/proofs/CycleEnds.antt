-- What ends a cycle: a publish, or a skip, after which the former schedule stays in effect.
use Rattle.std.proofs.Common.{◌≡◌, ◌≢◌, ℕ, suc, ◌+◌, ◌-◌, ◌<◌, ◌≤◌, max, Bool, true, false, cond, List, [], ◌∷◌, ◌++◌, length, get_or, set, slice_get, Some, None, refl, sym, ap, subst, ◌∙◌, arith}
use Rattle.std.specs.Prelude.{◌==◌, ◌&&◌, if◌then◌else◌}
use Rattle.std.proofs.lemmas.Bool.{false≢true, ltb-false, eqb-true, eqb-false, ne_eqb}
use Rattle.std.proofs.lemmas.List.{length-append, get_or-set_same, get_or-set_other, length-set}
use Rattle.gd_units.specs.declared.service.End.{End}
use Rattle.gd_units.specs.declared.service.End.TheVariants.{Origin, Dest}
use Rattle.gd_system.specs.Pipeline.{elements_of}
use Rattle.gd_certificate.specs.Checked.{Certificate}
use Rattle.gd_machine.specs.declared.event.Event.{Event}
use Rattle.gd_machine.specs.declared.event.Event.TheVariants.{Publish, Skip}
use Rattle.gd_machine.specs.declared.reply.Reply.{Reply}
use Rattle.gd_machine.specs.Day.{Day}
use Rattle.gd_machine.specs.History.{History, ends_cycle, cycle_of, is_frozen, is_waived, response_of, schedules}
use Rattle.gd_machine.specs.Machine.{tests_of, refusal_of}
use Rattle.gd_machine.proofs.Legal.{all_false, not_false}
use Rattle.gd_machine.proofs.Steps.{stamp_more, frozen_more, cut_more, waived_more, response_more, elements_more, schedules_more}
use Rattle.gd_machine.proofs.Counting.{cycle_more}
use Rattle.gd_book_part.specs.LineConfirmations.{Tells, nothing}
use Rattle.gd_book_part.specs.declared.confirmations.Confirmation.{Confirmation}
use Rattle.gd_book_part.specs.Kept.{AreTablesOf, AreInEffect, Brings}
use Rattle.gd_book_part.specs.declared.tables.Tables.{Tables}
use Rattle.gd_machine.proofs.Flowing.{last_appended}
use Rattle.std.proofs.lemmas.List.{get_or_append_left}
use Rattle.gd_book_part.proofs.NextEvent.{few_on, round_on, rounds_on, calls_on, few_calls_on, brings_on, lines_on, sized_on, accepted_on, nominated_on, not_full, none_kept_on}

module _ (day : Day) (h : History) (p : Event × Reply) (s : Tables) (kept : AreTablesOf day s h) (short : length h < 1_000_000) (ends : ends_cycle p.0 ≡ true) (some : cycle_of h ≤ 5) where
  pub cycle_up : cycle_of (h ++ p ∷ []) ≡ cycle_of h + 1
  cycle_up = cycle_more h p ∙ ap (λ b. cycle_of h + cond b 1 0) ends

  pub settled_up : cycle_of (h ++ p ∷ []) ≤ 6
  settled_up = let c = cycle_up in omega (arith, c, some)

  -- no entry is for the next cycle
  pub forgotten : (line : ℕ) → ((end : End) → response_of (h ++ p ∷ []) line end ≡ None) → is_waived (h ++ p ∷ []) line ≡ false → (c : Confirmation) → Tells h line c → Tells (h ++ p ∷ []) line c
  forgotten line responses waiver c t =
      let up = cycle_up in
      let low = t.current in
      let past : (c.cycle == cycle_of (h ++ p ∷ [])) ≡ false = ne_eqb c.cycle (cycle_of (h ++ p ∷ [])) (λ e. omega (arith, e, up, low)) in
      record {
        current = omega (arith, up, low);
        origin = responses Origin ∙ sym (ap (λ b. if b then c.origin else None) past);
        dest = responses Dest ∙ sym (ap (λ b. if b then c.dest else None) past);
        waived = waiver ∙ sym (ap (λ b. b && c.waived) past);
      }

  -- one schedule more is in effect
  pub effect_up : (schedule : List ℕ) → length (schedules h) ≡ cycle_of h → schedules (h ++ p ∷ []) ≡ schedules h ++ schedule ∷ [] → (place : ℕ) → Brings (h ++ p ∷ []) place schedule → length s.published ≡ 5 → AreInEffect (h ++ p ∷ []) (set s.published (cycle_of h - 1) place)
  effect_up schedule sized more place brings five cycle low high = go (cycle == cycle_of h) refl
    where
      go : (b : Bool) → (cycle == cycle_of h) ≡ b → Brings (h ++ p ∷ []) (get_or (set s.published (cycle_of h - 1) place) (cycle - 1) 0) (get_or (schedules (h ++ p ∷ [])) cycle [])
      go true e =
          let now : cycle ≡ cycle_of h = eqb-true cycle (cycle_of h) e in
          let at : get_or (set s.published (cycle_of h - 1) place) (cycle - 1) 0 ≡ place = ap (λ n. get_or (set s.published (cycle_of h - 1) place) (n - 1) 0) now ∙ get_or-set_same s.published (cycle_of h - 1) place 0 (omega (arith, some, five)) in
          let is : get_or (schedules (h ++ p ∷ [])) cycle [] ≡ schedule = ap (λ ss. get_or ss cycle []) more ∙ last_appended (schedules h) schedule cycle (omega (arith, now, sized)) in
          subst (λ n. Brings (h ++ p ∷ []) n (get_or (schedules (h ++ p ∷ [])) cycle [])) (sym at) (subst (Brings (h ++ p ∷ []) place) (sym is) brings)
      go false e =
          let apart : cycle ≢ cycle_of h = eqb-false cycle (cycle_of h) e in
          let up = cycle_up in
          let below : cycle < cycle_of h = omega (arith, high, up, apart) in
          let other : cycle - 1 ≢ cycle_of h - 1 = (λ q. apart (omega (arith, q, low, below))) in
          let at : get_or (set s.published (cycle_of h - 1) place) (cycle - 1) 0 ≡ get_or s.published (cycle - 1) 0 = get_or-set_other s.published (cycle_of h - 1) (cycle - 1) place 0 other in
          let is : get_or (schedules (h ++ p ∷ [])) cycle [] ≡ get_or (schedules h) cycle [] = ap (λ ss. get_or ss cycle []) more ∙ get_or_append_left (schedules h) (schedule ∷ []) [] cycle (omega (arith, below, sized)) in
          subst (λ n. Brings (h ++ p ∷ []) n (get_or (schedules (h ++ p ∷ [])) cycle [])) (sym at)
          (subst (Brings (h ++ p ∷ []) (get_or s.published (cycle - 1) 0)) (sym is) (brings_on h p (get_or s.published (cycle - 1) 0) (get_or (schedules h) cycle []) (kept.in_effect cycle low below)))

-- ---- a skip

pub skip_more : (day : Day) (h : History) (moment : ℕ) (reply : Reply) (s : Tables) (stamp : ℕ) (published : List ℕ) (place : ℕ) → stamp ≡ max s.stamp moment → AreTablesOf day s h → refusal_of day h (Skip moment) ≡ None
    → published ≡ set s.published (cycle_of h - 1) place → Brings h place (get_or (schedules h) (cycle_of h - 1) [])
    → AreTablesOf day (record s { stamp = stamp; cycle = s.cycle + 1; has_cut = false; published = published }) (h ++ (Skip moment, reply) ∷ [])
skip_more day h moment reply s stamp published place is kept none changed former =
    let p : Event × Reply = (Skip moment, reply) in
    let tests = all_false (tests_of day h (Skip moment)) none in
    let short = not_full h tests.1.1.1.0 in
    let some : cycle_of h ≤ 5 = ltb-false 5 (cycle_of h) tests.0 in
    let open_now = tests.1.0 in
    let schedule : List ℕ = get_or (schedules h) (length (schedules h) - 1) [] in
    let brings : Brings (h ++ p ∷ []) place schedule = brings_on h p place schedule (subst (λ n. Brings h place (get_or (schedules h) (n - 1) [])) (sym kept.counted) former) in
    record {
      stamp = is ∙ ap (λ n. max n moment) kept.stamp ∙ sym (stamp_more h p);
      cycle = ap (λ n. n + 1) kept.cycle ∙ sym (cycle_up day h p s kept short refl some);
      round = kept.round ∙ sym (round_on day h p s kept short refl);
      cut = sym (cut_more h p);
      frozen = none_kept_on day h p s kept open_now (frozen_more h p ∙ open_now);
      lines = lines_on day h p s kept short refl;
      sized = sized_on day h p s kept short refl;
      confirmed = λ line. forgotten day h p s kept short refl some line (λ end. response_more line end h p) (waived_more line h p) (get_or s.confirmations.items line nothing) (kept.confirmed line);
      limited = kept.limited;
      in_force = kept.in_force ∙ sym (elements_more (elements_of day.holdings.pipeline) h p);
      in_effect = subst (AreInEffect (h ++ p ∷ [])) (sym changed) (effect_up day h p s kept short refl some schedule kept.counted (schedules_more h p) place brings kept.five);
      five = ap length changed ∙ length-set s.published (cycle_of h - 1) place ∙ kept.five;
      counted = ap length (schedules_more h p) ∙ length-append (schedules h) (schedule ∷ []) ∙ ap (λ n. n + 1) kept.counted ∙ sym (cycle_up day h p s kept short refl some);
      before = ap (λ ss. get_or ss 0 []) (schedules_more h p) ∙ get_or_append_left (schedules h) (schedule ∷ []) [] 0 (let n = kept.counted in omega (arith, n)) ∙ kept.before;
      accepted = accepted_on day h p s kept short refl;
      small = kept.small;
      few_nominations = nominated_on day h p s kept short;
      calls = calls_on day h p s kept short refl;
      few_calls = (let k = few_calls_on day h p s kept short in omega (arith, k));
      few = few_on day h p s kept short;
      settled = settled_up day h p s kept short refl some;
      running = λ frozen. absurd (false≢true (sym (frozen_more h p ∙ open_now) ∙ frozen));
      few_rounds = rounds_on day h p s kept short refl;
    }

-- ---- a publish

pub publish_more : (day : Day) (h : History) (moment : ℕ) (certificate : Certificate) (reply : Reply) (s : Tables) (stamp : ℕ) (published : List ℕ) → stamp ≡ max s.stamp moment → AreTablesOf day s h → refusal_of day h (Publish moment certificate) ≡ None
    → published ≡ set s.published (cycle_of h - 1) (length h + 1)
    → AreTablesOf day (record s { stamp = stamp; cycle = s.cycle + 1; has_cut = false; frozen = None; published = published }) (h ++ (Publish moment certificate, reply) ∷ [])
publish_more day h moment certificate reply s stamp published is kept none changed =
    let p : Event × Reply = (Publish moment certificate, reply) in
    let tests = all_false (tests_of day h (Publish moment certificate)) none in
    let short = not_full h tests.1.1.1.0 in
    let some : cycle_of h ≤ 5 = kept.running (not_false (is_frozen h) tests.0) in
    let schedule : List ℕ = certificate.schedule in
    let place : ℕ = length h + 1 in
    let brings : Brings (h ++ p ∷ []) place schedule = subst (λ n. Brings (h ++ p ∷ []) n schedule) (next (length h)) (moment, certificate, reply, slice_last h p, refl) in
    record {
      stamp = is ∙ ap (λ n. max n moment) kept.stamp ∙ sym (stamp_more h p);
      cycle = ap (λ n. n + 1) kept.cycle ∙ sym (cycle_up day h p s kept short refl some);
      round = kept.round ∙ sym (round_on day h p s kept short refl);
      cut = sym (cut_more h p);
      frozen = frozen_more h p;
      lines = lines_on day h p s kept short refl;
      sized = sized_on day h p s kept short refl;
      confirmed = λ line. forgotten day h p s kept short refl some line (λ end. response_more line end h p) (waived_more line h p) (get_or s.confirmations.items line nothing) (kept.confirmed line);
      limited = kept.limited;
      in_force = kept.in_force ∙ sym (elements_more (elements_of day.holdings.pipeline) h p);
      in_effect = subst (AreInEffect (h ++ p ∷ [])) (sym changed) (effect_up day h p s kept short refl some schedule kept.counted (schedules_more h p) place brings kept.five);
      five = ap length changed ∙ length-set s.published (cycle_of h - 1) place ∙ kept.five;
      counted = ap length (schedules_more h p) ∙ length-append (schedules h) (schedule ∷ []) ∙ ap (λ n. n + 1) kept.counted ∙ sym (cycle_up day h p s kept short refl some);
      before = ap (λ ss. get_or ss 0 []) (schedules_more h p) ∙ get_or_append_left (schedules h) (schedule ∷ []) [] 0 (let n = kept.counted in omega (arith, n)) ∙ kept.before;
      accepted = accepted_on day h p s kept short refl;
      small = kept.small;
      few_nominations = nominated_on day h p s kept short;
      calls = calls_on day h p s kept short refl;
      few_calls = (let k = few_calls_on day h p s kept short in omega (arith, k));
      few = few_on day h p s kept short;
      settled = settled_up day h p s kept short refl some;
      running = λ frozen. absurd (false≢true (sym (frozen_more h p) ∙ frozen));
      few_rounds = rounds_on day h p s kept short refl;
    }
  where
    next : (n : ℕ) → suc n ≡ n + 1
    next n = omega arith

    slice_last : (xs : List (Event × Reply)) (x : Event × Reply) → slice_get (xs ++ x ∷ []) (length xs) ≡ Some x
    slice_last [] x = refl
    slice_last (y ∷ xs) x = slice_last xs x
