-- The tables after one event more.
use Rattle.std.proofs.Common.{◌≡◌, ℕ, zero, suc, ◌+◌, ◌-◌, ◌<◌, ◌≤◌, max, true, false, cond, List, [], ◌∷◌, ◌++◌, length, get_or, slice_get, Option, Some, None, refl, sym, ap, subst, ◌∙◌, arith}
use Rattle.std.specs.Prelude.{◌==◌, ◌&&◌, if◌then◌else◌, sum_by}
use Rattle.std.specs.List.{cons_option}
use Rattle.std.proofs.lemmas.Bool.{false≢true, leb-false}
use Rattle.std.proofs.lemmas.List.{length-append, append-nil}
use Rattle.std.proofs.lemmas.Option.{slice_get_within}
use Rattle.gd_rules.specs.Lines.{Nomination, lines_of}
use Rattle.gd_units.specs.declared.service.End.{End}
use Rattle.gd_units.specs.declared.service.End.TheVariants.{Origin, Dest}
use Rattle.gd_system.specs.Pipeline.{elements_of}
use Rattle.gd_certificate.specs.Cutting.{Members}
use Rattle.gd_machine.specs.declared.event.Event.{Event}
use Rattle.gd_machine.specs.declared.event.Event.TheVariants.{Publish, Declare}
use Rattle.gd_machine.specs.declared.reply.Reply.{Reply}
use Rattle.gd_machine.specs.Day.{Day}
use Rattle.gd_machine.specs.History.{History, ends_cycle, is_freeze, cycle_of, round_of, is_frozen, is_waived, response_of, schedules}
use Rattle.gd_machine.specs.Sessions.{is_session_call, session_calls}
use Rattle.gd_machine.specs.Asking.{nomination_of, nominations, accepted}
use Rattle.gd_machine.specs.Machine.{tests_of, refusal_of, is_full}
use Rattle.gd_machine.proofs.Legal.{all_false}
use Rattle.gd_machine.proofs.Steps.{stamp_more, frozen_more, cut_more, waived_more, response_more, elements_more, schedules_more}
use Rattle.gd_machine.proofs.Nominations.{nominations_more}
use Rattle.gd_machine.proofs.Counting.{count_more, cycle_more, round_more}
use Rattle.gd_book_part.specs.LineConfirmations.{Tells, nothing}
use Rattle.gd_book_part.specs.declared.confirmations.Confirmation.{Confirmation}
use Rattle.gd_book_part.specs.Kept.{AreTablesOf, AreInEffect, Brings, IsFrozenAs}
use Rattle.gd_book_part.specs.declared.tables.Tables.{Tables}

pub level : {a : ℕ} (b : ℕ) → a ≡ b + 0 → a ≡ b
level b e = omega (arith, e)

slice_on : {X : Type 0} (xs ys : List X) (k : ℕ) (x : X) → slice_get xs k ≡ Some x → slice_get (xs ++ ys) k ≡ Some x
slice_on [] ys k x e = absurd (let k = slice_get_within [] k x e in omega (arith, k))
slice_on (y ∷ xs) ys zero x e = e
slice_on (y ∷ xs) ys (suc k) x e = slice_on xs ys k x e

pub brings_on : (h : History) (p : Event × Reply) (place : ℕ) (s : List ℕ) → Brings h place s → Brings (h ++ p ∷ []) place s
brings_on h p zero s b = b
brings_on h p (suc place) s (moment, certificate, reply, at, e) = (moment, certificate, reply, slice_on h (p ∷ []) place (Publish moment certificate, reply) at, e)

calls_more : (h : History) (p : Event × Reply) → session_calls (h ++ p ∷ []) ≡ session_calls h + cond (is_session_call p.0) 1 0
calls_more h p = count_more (λ q. is_session_call q.0) h p

-- ---- an event that ends no cycle
module _ (day : Day) (h : History) (p : Event × Reply) (s : Tables) (kept : AreTablesOf day s h) (short : length h < 1_000_000) where
  pub longer : length (h ++ p ∷ []) ≡ length h + 1
  longer = length-append h (p ∷ [])

  pub few_on : length (h ++ p ∷ []) ≤ 1_000_000
  few_on = let l = longer in omega (arith, l, short)

  pub cycle_on : ends_cycle p.0 ≡ false → cycle_of (h ++ p ∷ []) ≡ cycle_of h
  cycle_on e = level (cycle_of h) (cycle_more h p ∙ ap (λ b. cycle_of h + cond b 1 0) e)

  pub round_on : is_freeze p.0 ≡ false → round_of (h ++ p ∷ []) ≡ round_of h
  round_on e = level (round_of h) (round_more h p ∙ ap (λ b. round_of h + cond b 1 0) e)

  pub settled_on : ends_cycle p.0 ≡ false → cycle_of (h ++ p ∷ []) ≤ 6
  settled_on e = let c = cycle_on e in let k = kept.settled in omega (arith, c, k)

  pub rounds_on : is_freeze p.0 ≡ false → round_of (h ++ p ∷ []) ≤ length (h ++ p ∷ [])
  rounds_on e = let r = round_on e in let k = kept.few_rounds in let l = longer in omega (arith, r, k, l)

  pub calls_on : is_session_call p.0 ≡ false → s.calls ≡ session_calls (h ++ p ∷ [])
  calls_on e = kept.calls ∙ sym (level (session_calls h) (calls_more h p ∙ ap (λ b. session_calls h + cond b 1 0) e))

  pub calls_up : is_session_call p.0 ≡ true → s.calls + 1 ≡ session_calls (h ++ p ∷ [])
  calls_up e = ap (λ n. n + 1) kept.calls ∙ sym (calls_more h p ∙ ap (λ b. session_calls h + cond b 1 0) e)

  pub few_calls_on : s.calls + 1 ≤ length (h ++ p ∷ [])
  few_calls_on = let k = kept.few_calls in let l = longer in omega (arith, k, l)

  pub effect_on : ends_cycle p.0 ≡ false → schedules (h ++ p ∷ []) ≡ schedules h → AreInEffect (h ++ p ∷ []) s.published
  effect_on e same cycle low high =
      subst (λ ss. Brings (h ++ p ∷ []) (get_or s.published (cycle - 1) 0) (get_or ss cycle [])) (sym same)
      (brings_on h p (get_or s.published (cycle - 1) 0) (get_or (schedules h) cycle []) (kept.in_effect cycle low (let c = cycle_on e in omega (arith, c, high))))

  -- one that brings no nomination
  pub nominations_on : nomination_of day p ≡ None → nominations day (h ++ p ∷ []) ≡ nominations day h
  nominations_on e = nominations_more day h p ∙ ap (λ o. nominations day h ++ cons_option o []) e ∙ append-nil (nominations day h)

  pub lines_on : nomination_of day p ≡ None → s.lines ≡ nominations day (h ++ p ∷ [])
  lines_on e = kept.lines ∙ sym (nominations_on e)

  pub sized_on : nomination_of day p ≡ None → length s.confirmations.items ≡ length (lines_of (nominations day (h ++ p ∷ [])))
  sized_on e = kept.sized ∙ ap (λ ns. length (lines_of ns)) (sym (nominations_on e))

  pub accepted_on : nomination_of day p ≡ None → (s.nominations, s.dekatherms) ≡ accepted day (h ++ p ∷ [])
  accepted_on e = kept.accepted ∙ ap (λ (ns : List Nomination). (length ns, sum_by (λ n. n.quantity) ns)) (sym (nominations_on e))

  pub nominated_on : s.nominations ≤ length (h ++ p ∷ [])
  nominated_on = let k = kept.few_nominations in let l = longer in omega (arith, k, l)

  -- what an entry tells goes on where responses and waivers stay
  pub tells_on : ends_cycle p.0 ≡ false → (line : ℕ) → ((end : End) → response_of (h ++ p ∷ []) line end ≡ response_of h line end) → is_waived (h ++ p ∷ []) line ≡ is_waived h line
      → (c : Confirmation) → Tells h line c → Tells (h ++ p ∷ []) line c
  tells_on e line responses waiver c t =
      let same = cycle_on e in
      record {
        current = (let k = t.current in omega (arith, same, k));
        origin = responses Origin ∙ t.origin ∙ ap (λ n. if c.cycle == n then c.origin else None) (sym same);
        dest = responses Dest ∙ t.dest ∙ ap (λ n. if c.cycle == n then c.dest else None) (sym same);
        waived = waiver ∙ t.waived ∙ ap (λ n. (c.cycle == n) && c.waived) (sym same);
      }

  pub frozen_on : ends_cycle p.0 ≡ false → is_frozen (h ++ p ∷ []) ≡ is_frozen h → is_frozen (h ++ p ∷ []) ≡ true → cycle_of (h ++ p ∷ []) ≤ 5
  frozen_on e same frozen = let k = kept.running (sym same ∙ frozen) in let c = cycle_on e in omega (arith, k, c)

-- the last test of each kind of event
pub not_full : (h : History) → is_full h ≡ false → length h < 1_000_000
not_full h e = leb-false 1_000_000 (length h) e

pub not_frozen_as : (day : Day) (h : History) (o : Option _) → is_frozen h ≡ false → IsFrozenAs day h o → o ≡ None
not_frozen_as day h None e f = refl
not_frozen_as day h (Some q) e f = absurd (false≢true (sym e ∙ f.0))

-- ---- kinds of events

pub declare_more : (day : Day) (h : History) (moment round : ℕ) (cut : Members) (reply : Reply) (s : Tables) (stamp : ℕ) → stamp ≡ max s.stamp moment → AreTablesOf day s h → refusal_of day h (Declare moment round cut) ≡ None
    → AreTablesOf day (record s { stamp = stamp; frozen = None; has_cut = true }) (h ++ (Declare moment round cut, reply) ∷ [])
declare_more day h moment round cut reply s stamp is kept none =
    let p : Event × Reply = (Declare moment round cut, reply) in
    let tests = all_false (tests_of day h (Declare moment round cut)) none in
    let short = not_full h tests.1.1.1.1.0 in
    record {
      stamp = is ∙ ap (λ n. max n moment) kept.stamp ∙ sym (stamp_more h p);
      cycle = kept.cycle ∙ sym (cycle_on day h p s kept short refl);
      round = kept.round ∙ sym (round_on day h p s kept short refl);
      cut = sym (cut_more h p);
      frozen = frozen_more h p;
      lines = lines_on day h p s kept short refl;
      sized = sized_on day h p s kept short refl;
      confirmed = λ line. tells_on day h p s kept short refl line (λ end. response_more line end h p) (waived_more line h p) (get_or s.confirmations.items line nothing) (kept.confirmed line);
      limited = kept.limited;
      in_force = kept.in_force ∙ sym (elements_more (elements_of day.holdings.pipeline) h p);
      in_effect = effect_on day h p s kept short refl (schedules_more h p);
      five = kept.five;
      counted = ap length (schedules_more h p) ∙ kept.counted ∙ sym (cycle_on day h p s kept short refl);
      before = ap (λ ss. get_or ss 0 []) (schedules_more h p) ∙ kept.before;
      accepted = accepted_on day h p s kept short refl;
      small = kept.small;
      few_nominations = nominated_on day h p s kept short;
      calls = calls_on day h p s kept short refl;
      few_calls = (let k = few_calls_on day h p s kept short in omega (arith, k));
      few = few_on day h p s kept short;
      settled = settled_on day h p s kept short refl;
      running = λ frozen. absurd (false≢true (sym (frozen_more h p) ∙ frozen));
      few_rounds = rounds_on day h p s kept short refl;
    }

-- while a cycle is open no question is kept
pub none_kept : (day : Day) (h : History) (s : Tables) → AreTablesOf day s h → is_frozen h ≡ false → s.frozen ≡ None
none_kept day h s kept e = not_frozen_as day h s.frozen e kept.frozen

pub none_kept_on : (day : Day) (h : History) (p : Event × Reply) (s : Tables) → AreTablesOf day s h → is_frozen h ≡ false → is_frozen (h ++ p ∷ []) ≡ false → IsFrozenAs day (h ++ p ∷ []) s.frozen
none_kept_on day h p s kept e f = subst (IsFrozenAs day (h ++ p ∷ [])) (sym (none_kept day h s kept e)) f
