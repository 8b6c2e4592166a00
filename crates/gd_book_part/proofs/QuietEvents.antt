-- Responses, waivers and capacities: events that end no cycle and bring no nomination.
use Rattle.std.proofs.Common.{◌≡◌, ◌≢◌, ℕ, ◌+◌, ◌<◌, max, Bool, true, false, nat_lt, List, [], ◌∷◌, ◌++◌, length, get_or, set, Some, None, refl, sym, ap, subst, ◌∙◌, arith}
use Rattle.std.specs.Prelude.{◌==◌, ◌&&◌, if◌then◌else◌, is_some}
use Rattle.std.specs.Global.{Vec}
use Rattle.std.proofs.lemmas.Bool.{false≢true, ltb-false, leb-false, eqb-true, eqb-false, eq-eqb, ne_eqb, ltb-true}
use Rattle.std.proofs.lemmas.List.{get_or-set_same, get_or-set_other, length-set}
use Rattle.gd_rules.specs.Question.{Element}
use Rattle.gd_units.specs.declared.service.End.{End}
use Rattle.gd_units.specs.declared.service.End.TheVariants.{Origin, Dest}
use Rattle.gd_system.specs.Pipeline.{elements_of}
use Rattle.gd_question.specs.InForce.{in_force, limit_fault}
use Rattle.gd_machine.specs.declared.event.Event.{Event}
use Rattle.gd_machine.specs.declared.event.Event.TheVariants.{Respond, PostCapacity, Waive}
use Rattle.gd_machine.specs.declared.reply.Reply.{Reply}
use Rattle.gd_machine.specs.Day.{Day, IsDay}
use Rattle.gd_machine.specs.History.{History, ends_cycle, cycle_of, is_waived, response_of, elements_after, same_end}
use Rattle.gd_machine.specs.Machine.{tests_of, refusal_of}
use Rattle.gd_machine.proofs.Legal.{all_false}
use Rattle.gd_machine.proofs.Steps.{stamp_more, frozen_more, cut_more, waived_more, response_more, elements_more, schedules_more}
use Rattle.gd_book_part.specs.LineConfirmations.{Tells, nothing}
use Rattle.gd_book_part.specs.declared.confirmations.Confirmation.{Confirmation}
use Rattle.gd_book_part.specs.Kept.{AreTablesOf}
use Rattle.gd_book_part.specs.declared.tables.Tables.{Tables}
use Rattle.gd_question.proofs.InForceLemmas.{in_force-set}
use Rattle.gd_question.proofs.Limits.{pools_last}
use Rattle.gd_question.specs.Known.{limit_of}
use Rattle.gd_rules.specs.Question.Element.{Segment, Receipt, Delivery, Pool}
use Rattle.gd_book_part.proofs.NextEvent.{few_on, cycle_on, round_on, settled_on, rounds_on, calls_on, calls_up, few_calls_on, effect_on, lines_on, sized_on, accepted_on, nominated_on, tells_on, not_full, none_kept_on}

-- ---- one entry changes

-- what of an entry holds in this cycle
abbrev pub now_of : Confirmation → ℕ → Confirmation
now_of c cycle = record {
  cycle = cycle;
  origin = if c.cycle == cycle then c.origin else None;
  dest = if c.cycle == cycle then c.dest else None;
  waived = (c.cycle == cycle) && c.waived;
}

module _ (day : Day) (h : History) (p : Event × Reply) (s : Tables) (kept : AreTablesOf day s h) (short : length h < 1_000_000) (ends : ends_cycle p.0 ≡ false) (line : ℕ) (within : line < length s.confirmations.items) (d : Confirmation) where
  abbrev former : Confirmation
  former = get_or s.confirmations.items line nothing

  -- the line's own entry, with the cycle that it is for
  own : d.cycle ≡ cycle_of h → response_of (h ++ p ∷ []) line Origin ≡ d.origin → response_of (h ++ p ∷ []) line Dest ≡ d.dest → is_waived (h ++ p ∷ []) line ≡ d.waived → Tells (h ++ p ∷ []) line d
  own e origin dest waiver =
      let same = cycle_on day h p s kept short ends in
      let now : (d.cycle == cycle_of (h ++ p ∷ [])) ≡ true = eq-eqb d.cycle (cycle_of (h ++ p ∷ [])) (e ∙ sym same) in
      record {
        current = omega (arith, e, same);
        origin = origin ∙ sym (ap (λ b. if b then d.origin else None) now);
        dest = dest ∙ sym (ap (λ b. if b then d.dest else None) now);
        waived = waiver ∙ sym (ap (λ b. b && d.waived) now);
      }

  -- all entries, where the others' lines stay
  pub one_entry : Tells (h ++ p ∷ []) line d → ((other : ℕ) → other ≢ line → ((end : End) → response_of (h ++ p ∷ []) other end ≡ response_of h other end) × (is_waived (h ++ p ∷ []) other ≡ is_waived h other))
      → (other : ℕ) → Tells (h ++ p ∷ []) other (get_or (set s.confirmations.items line d) other nothing)
  one_entry mine others other = go (other == line) refl
    where
      go : (b : Bool) → (other == line) ≡ b → Tells (h ++ p ∷ []) other (get_or (set s.confirmations.items line d) other nothing)
      go true e =
          let same : other ≡ line = eqb-true other line e in
          subst (λ n. Tells (h ++ p ∷ []) n (get_or (set s.confirmations.items line d) n nothing)) (sym same)
          (subst (Tells (h ++ p ∷ []) line) (sym (get_or-set_same s.confirmations.items line d nothing within)) mine)
      go false e =
          let apart : other ≢ line = eqb-false other line e in
          let stays = others other apart in
          subst (Tells (h ++ p ∷ []) other) (sym (get_or-set_other s.confirmations.items line other d nothing apart))
          (tells_on day h p s kept short ends other stays.0 stays.1 (get_or s.confirmations.items other nothing) (kept.confirmed other))

-- ---- a waiver

waived_entry : (day : Day) (h : History) (moment line : ℕ) (reply : Reply) (s : Tables) → AreTablesOf day s h → length h < 1_000_000 → line < length s.confirmations.items → (d : Confirmation)
    → d ≡ (record (now_of (get_or s.confirmations.items line nothing) (cycle_of h)) { waived = true }) → (other : ℕ) → Tells (h ++ (Waive moment line, reply) ∷ []) other (get_or (set s.confirmations.items line d) other nothing)
waived_entry day h moment line reply s kept short within d e =
    let p : Event × Reply = (Waive moment line, reply) in
    let t = kept.confirmed line in
    let mine = own day h p s kept short refl line within d (ap (λ (x : Confirmation). x.cycle) e)
    (response_more line Origin h p ∙ t.origin ∙ sym (ap (λ (x : Confirmation). x.origin) e))
    (response_more line Dest h p ∙ t.dest ∙ sym (ap (λ (x : Confirmation). x.dest) e))
    (waived_more line h p ∙ ap (λ b. if b then true else is_waived h line) (eq-eqb line line refl) ∙ sym (ap (λ (x : Confirmation). x.waived) e)) in
    one_entry day h p s kept short refl line within d mine
    (λ other apart. (λ end. response_more other end h p, waived_more other h p ∙ ap (λ b. if b then true else is_waived h other) (ne_eqb line other (λ q. apart (sym q)))))

pub waive_more : (day : Day) (h : History) (moment line : ℕ) (reply : Reply) (s : Tables) (stamp : ℕ) (entries : Vec Confirmation) (d : Confirmation) → stamp ≡ max s.stamp moment → AreTablesOf day s h → refusal_of day h (Waive moment line) ≡ None
    → line < length s.confirmations.items → entries.items ≡ set s.confirmations.items line d → d ≡ (record (now_of (get_or s.confirmations.items line nothing) (cycle_of h)) { waived = true })
    → AreTablesOf day (record s { stamp = stamp; confirmations = entries }) (h ++ (Waive moment line, reply) ∷ [])
waive_more day h moment line reply s stamp entries d is kept none within changed e =
    let p : Event × Reply = (Waive moment line, reply) in
    let tests = all_false (tests_of day h (Waive moment line)) none in
    let short = not_full h tests.1.1.1.1.0 in
    let open_now = tests.1.0 in
    record {
      stamp = is ∙ ap (λ n. max n moment) kept.stamp ∙ sym (stamp_more h p);
      cycle = kept.cycle ∙ sym (cycle_on day h p s kept short refl);
      round = kept.round ∙ sym (round_on day h p s kept short refl);
      cut = kept.cut ∙ sym (cut_more h p);
      frozen = none_kept_on day h p s kept open_now (frozen_more h p ∙ open_now);
      lines = lines_on day h p s kept short refl;
      sized = ap length changed ∙ length-set s.confirmations.items line d ∙ sized_on day h p s kept short refl;
      confirmed = λ other. subst (λ es. Tells (h ++ p ∷ []) other (get_or es other nothing)) (sym changed) (waived_entry day h moment line reply s kept short within d e other);
      limited = kept.limited;
      in_force = kept.in_force ∙ sym (elements_more (elements_of day.holdings.pipeline) h p);
      in_effect = effect_on day h p s kept short refl (schedules_more h p);
      five = kept.five;
      counted = ap length (schedules_more h p) ∙ kept.counted ∙ sym (cycle_on day h p s kept short refl);
      before = ap (λ ss. get_or ss 0 []) (schedules_more h p) ∙ kept.before;
      accepted = accepted_on day h p s kept short refl;
      small = kept.small;
      few_nominations = nominated_on day h p s kept short;
      calls = calls_on day h p s kept short refl;
      few_calls = (let k = few_calls_on day h p s kept short in omega (arith, k));
      few = few_on day h p s kept short;
      settled = settled_on day h p s kept short refl;
      running = λ frozen. absurd (false≢true (sym (frozen_more h p ∙ open_now) ∙ frozen));
      few_rounds = rounds_on day h p s kept short refl;
    }

-- ---- a response

responded_entry : (day : Day) (h : History) (moment : ℕ) (party : List ℕ) (line : ℕ) (end : End) (amount : ℕ) (reply : Reply) (s : Tables) → AreTablesOf day s h → length h < 1_000_000 → line < length s.confirmations.items → (d : Confirmation)
    → d ≡ (record (now_of (get_or s.confirmations.items line nothing) (cycle_of h)) {
      origin = if same_end end Origin then Some amount else (now_of (get_or s.confirmations.items line nothing) (cycle_of h)).origin;
      dest = if same_end end Dest then Some amount else (now_of (get_or s.confirmations.items line nothing) (cycle_of h)).dest;
    }) → (other : ℕ) → Tells (h ++ (Respond moment party line end amount, reply) ∷ []) other (get_or (set s.confirmations.items line d) other nothing)
responded_entry day h moment party line end amount reply s kept short within d e =
    let p : Event × Reply = (Respond moment party line end amount, reply) in
    let t = kept.confirmed line in
    let mine = own day h p s kept short refl line within d (ap (λ (x : Confirmation). x.cycle) e)
    (here Origin ∙ ap (λ o. if same_end end Origin then Some amount else o) t.origin ∙ sym (ap (λ (x : Confirmation). x.origin) e))
    (here Dest ∙ ap (λ o. if same_end end Dest then Some amount else o) t.dest ∙ sym (ap (λ (x : Confirmation). x.dest) e))
    (waived_more line h p ∙ t.waived ∙ sym (ap (λ (x : Confirmation). x.waived) e)) in
    one_entry day h p s kept short refl line within d mine
    (λ other apart. (λ side. there other side apart, waived_more other h p))
  where
    here : (side : End) → response_of (h ++ (Respond moment party line end amount, reply) ∷ []) line side ≡ (if same_end end side then Some amount else response_of h line side)
    here side = response_more line side h (Respond moment party line end amount, reply) ∙ ap (λ b. if b && same_end end side then Some amount else response_of h line side) (eq-eqb line line refl)

    there : (other : ℕ) (side : End) → other ≢ line → response_of (h ++ (Respond moment party line end amount, reply) ∷ []) other side ≡ response_of h other side
    there other side apart = response_more other side h (Respond moment party line end amount, reply) ∙ ap (λ b. if b && same_end end side then Some amount else response_of h other side) (ne_eqb line other (λ q. apart (sym q)))

pub respond_more : (day : Day) (h : History) (moment : ℕ) (party : List ℕ) (line : ℕ) (end : End) (amount : ℕ) (reply : Reply) (s : Tables) (stamp : ℕ) (entries : Vec Confirmation) (d : Confirmation) → stamp ≡ max s.stamp moment → AreTablesOf day s h → refusal_of day h (Respond moment party line end amount) ≡ None
    → line < length s.confirmations.items → entries.items ≡ set s.confirmations.items line d
    → d ≡ (record (now_of (get_or s.confirmations.items line nothing) (cycle_of h)) {
      origin = if same_end end Origin then Some amount else (now_of (get_or s.confirmations.items line nothing) (cycle_of h)).origin;
      dest = if same_end end Dest then Some amount else (now_of (get_or s.confirmations.items line nothing) (cycle_of h)).dest;
    })
    → AreTablesOf day (record s { stamp = stamp; confirmations = entries; calls = s.calls + 1 }) (h ++ (Respond moment party line end amount, reply) ∷ [])
respond_more day h moment party line end amount reply s stamp entries d is kept none within changed e =
    let p : Event × Reply = (Respond moment party line end amount, reply) in
    let tests = all_false (tests_of day h (Respond moment party line end amount)) none in
    let short = not_full h tests.1.1.1.1.0 in
    let open_now = tests.1.0 in
    record {
      stamp = is ∙ ap (λ n. max n moment) kept.stamp ∙ sym (stamp_more h p);
      cycle = kept.cycle ∙ sym (cycle_on day h p s kept short refl);
      round = kept.round ∙ sym (round_on day h p s kept short refl);
      cut = kept.cut ∙ sym (cut_more h p);
      frozen = none_kept_on day h p s kept open_now (frozen_more h p ∙ open_now);
      lines = lines_on day h p s kept short refl;
      sized = ap length changed ∙ length-set s.confirmations.items line d ∙ sized_on day h p s kept short refl;
      confirmed = λ other. subst (λ es. Tells (h ++ p ∷ []) other (get_or es other nothing)) (sym changed) (responded_entry day h moment party line end amount reply s kept short within d e other);
      limited = kept.limited;
      in_force = kept.in_force ∙ sym (elements_more (elements_of day.holdings.pipeline) h p);
      in_effect = effect_on day h p s kept short refl (schedules_more h p);
      five = kept.five;
      counted = ap length (schedules_more h p) ∙ kept.counted ∙ sym (cycle_on day h p s kept short refl);
      before = ap (λ ss. get_or ss 0 []) (schedules_more h p) ∙ kept.before;
      accepted = accepted_on day h p s kept short refl;
      small = kept.small;
      few_nominations = nominated_on day h p s kept short;
      calls = calls_up day h p s kept short refl;
      few_calls = few_calls_on day h p s kept short;
      few = few_on day h p s kept short;
      settled = settled_on day h p s kept short refl;
      running = λ frozen. absurd (false≢true (sym (frozen_more h p ∙ open_now) ∙ frozen));
      few_rounds = rounds_on day h p s kept short refl;
    }

-- ---- a capacity

pool_limit : (e : Element) → limit_of e ≡ None → is_some (limit_fault e) ≡ true
pool_limit (Segment from to limit) e = cc
pool_limit (Receipt place limit) e = cc
pool_limit (Delivery place limit) e = cc
pool_limit (Pool place) e = refl

-- an element that has a capacity is a segment or a point
pub post_within : (day : Day) (h : History) (moment element capacity : ℕ) → IsDay day → refusal_of day h (PostCapacity moment (record { 0 = element }) capacity) ≡ None → element < length day.holdings.pipeline.tree + length day.holdings.pipeline.points
post_within day h moment element capacity is_day none =
    let tests = all_false (tests_of day h (PostCapacity moment (record { 0 = element }) capacity)) none in
    let known : element < length (elements_of day.holdings.pipeline) = leb-false (length (elements_of day.holdings.pipeline)) element tests.1.1.0 in
    go (nat_lt element (length day.holdings.pipeline.tree + length day.holdings.pipeline.points)) refl known tests.1.1.1.0
  where
    go : (b : Bool) → nat_lt element (length day.holdings.pipeline.tree + length day.holdings.pipeline.points) ≡ b → element < length (elements_of day.holdings.pipeline) → is_some (limit_fault (get_or (elements_of day.holdings.pipeline) element (Pool 0))) ≡ false → element < length day.holdings.pipeline.tree + length day.holdings.pipeline.points
    go true e known limit = ltb-true element (length day.holdings.pipeline.tree + length day.holdings.pipeline.points) e
    go false e known limit =
        let above = ltb-false element (length day.holdings.pipeline.tree + length day.holdings.pipeline.points) e in
        let none = pools_last day.holdings.pipeline element above in
        absurd (false≢true (sym limit ∙ pool_limit (get_or (elements_of day.holdings.pipeline) element (Pool 0)) none))

pub post_more : (day : Day) (h : History) (moment element capacity : ℕ) (reply : Reply) (s : Tables) (stamp : ℕ) (limits : Vec ℕ) → stamp ≡ max s.stamp moment → AreTablesOf day s h → refusal_of day h (PostCapacity moment (record { 0 = element }) capacity) ≡ None
    → element < length s.capacities.items → limits.items ≡ set s.capacities.items element capacity
    → AreTablesOf day (record s { stamp = stamp; capacities = limits; calls = s.calls + 1 }) (h ++ (PostCapacity moment (record { 0 = element }) capacity, reply) ∷ [])
post_more day h moment element capacity reply s stamp limits is kept none within changed =
    let p : Event × Reply = (PostCapacity moment (record { 0 = element }) capacity, reply) in
    let tests = all_false (tests_of day h (PostCapacity moment (record { 0 = element }) capacity)) none in
    let short = not_full h tests.1.1.1.1.0 in
    let open_now = tests.1.0 in
    record {
      stamp = is ∙ ap (λ n. max n moment) kept.stamp ∙ sym (stamp_more h p);
      cycle = kept.cycle ∙ sym (cycle_on day h p s kept short refl);
      round = kept.round ∙ sym (round_on day h p s kept short refl);
      cut = kept.cut ∙ sym (cut_more h p);
      frozen = none_kept_on day h p s kept open_now (frozen_more h p ∙ open_now);
      lines = lines_on day h p s kept short refl;
      sized = sized_on day h p s kept short refl;
      confirmed = λ line. tells_on day h p s kept short refl line (λ end. response_more line end h p) (waived_more line h p) (get_or s.confirmations.items line nothing) (kept.confirmed line);
      limited = ap length changed ∙ length-set s.capacities.items element capacity ∙ kept.limited;
      in_force = ap (in_force (elements_of day.holdings.pipeline)) changed ∙ in_force-set (elements_of day.holdings.pipeline) s.capacities.items element capacity within ∙ ap (λ es. elements_after es (PostCapacity moment (record { 0 = element }) capacity)) kept.in_force ∙ sym (elements_more (elements_of day.holdings.pipeline) h p);
      in_effect = effect_on day h p s kept short refl (schedules_more h p);
      five = kept.five;
      counted = ap length (schedules_more h p) ∙ kept.counted ∙ sym (cycle_on day h p s kept short refl);
      before = ap (λ ss. get_or ss 0 []) (schedules_more h p) ∙ kept.before;
      accepted = accepted_on day h p s kept short refl;
      small = kept.small;
      few_nominations = nominated_on day h p s kept short;
      calls = calls_up day h p s kept short refl;
      few_calls = few_calls_on day h p s kept short;
      few = few_on day h p s kept short;
      settled = settled_on day h p s kept short refl;
      running = λ frozen. absurd (false≢true (sym (frozen_more h p ∙ open_now) ∙ frozen));
      few_rounds = rounds_on day h p s kept short refl;
    }
