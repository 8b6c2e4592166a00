-- A nomination more: its line, its entry, and the frozen question, which it leaves as it is.
use Rattle.std.proofs.Common.{◌≡◌, ℕ, zero, suc, ◌+◌, ◌<◌, ◌≤◌, max, Bool, true, false, not, nat_lt, cond, List, [], ◌∷◌, ◌++◌, length, get_or, Option, Some, None, refl, sym, ap, ap₂, subst, ◌∙◌, arith}
use Rattle.std.specs.Prelude.{◌==◌, if◌then◌else◌, sum_by}
use Rattle.std.specs.Global.{Vec}
use Rattle.std.proofs.lemmas.Bool.{false≢true, ltb-false, eq-eqb, ne_eqb}
use Rattle.std.proofs.lemmas.List.{length-append}
use Rattle.gd_rules.specs.Lines.{Nomination, lines_of}
use Rattle.gd_system.specs.Pipeline.{elements_of}
use Rattle.gd_machine.specs.declared.event.Event.{Event}
use Rattle.gd_machine.specs.declared.event.Event.TheVariants.{Nominate}
use Rattle.gd_machine.specs.declared.reply.Reply.{Reply}
use Rattle.gd_machine.specs.Day.{Day}
use Rattle.gd_machine.specs.History.{History}
use Rattle.gd_machine.specs.Asking.{nominations, accepted}
use Rattle.gd_machine.specs.Machine.{tests_of, refusal_of}
use Rattle.gd_machine.proofs.Legal.{AllFalse, all_false}
use Rattle.gd_machine.proofs.Steps.{stamp_more, frozen_more, cut_more, waived_more, response_more, elements_more, schedules_more}
use Rattle.gd_machine.proofs.Nominations.{nominations_more}
use Rattle.gd_book_part.specs.LineConfirmations.{Tells, nothing}
use Rattle.gd_book_part.specs.declared.confirmations.Confirmation.{Confirmation}
use Rattle.gd_book_part.specs.Kept.{AreTablesOf, IsFrozenAs}
use Rattle.gd_book_part.specs.declared.tables.Tables.{Tables}
use Rattle.gd_machine.specs.Day.{IsDay}
use Rattle.std.specs.Prelude.{is_some}
use Rattle.std.proofs.lemmas.Bool.{ltb-true}
use Rattle.gd_book_part.proofs.NextEvent.{longer, few_on, cycle_on, round_on, settled_on, rounds_on, calls_up, few_calls_on, effect_on, tells_on, not_full}
use Rattle.std.specs.List.{position_or_len, list_any}
use Rattle.std.specs.Option.{unwrap_or}
use Rattle.std.proofs.lemmas.List.Sums.{prefix_len-le-length, sum_by-append}
use Rattle.gd_rules.specs.Lines.{Key, same_key, entered}
use Rattle.gd_lines.specs.Numbering.{nomination, numbered}
use Rattle.gd_lines.proofs.Accept.{line_is}
use Rattle.gd_lines.proofs.NextNomination.{lines_push}
use Rattle.gd_system.proofs.Positions.{is_some-position}
use Rattle.gd_question.specs.Posing.{Posed}
use Rattle.gd_machine.specs.Day.{cycle_at}
use Rattle.gd_machine.specs.History.{stamp_of}
use Rattle.gd_machine.specs.Asking.{class_in}
use Rattle.gd_machine.specs.Known.{IsSound, IsClassed}
use Rattle.gd_machine.specs.Machine.{number_of, line_number}
use Rattle.gd_machine.proofs.Nominations.{is_nominated, is_classed}
use Rattle.gd_machine.specs.Machine.{reply_of, cycle_now}
use Rattle.gd_machine.proofs.Staying.{question_stays}
use Rattle.gd_book_part.proofs.NextEvent.{frozen_on}
use Rattle.std.specs.Prelude.{Result, Ok, Err}
use Rattle.gd_system.specs.Route.{ends_of}
use Rattle.gd_system.specs.declared.part.Ends.{Ends}
use Rattle.gd_system.specs.declared.RouteFault.{RouteFault}
use Rattle.gd_machine.specs.declared.refusal.Refusal.{Refusal}
use Rattle.gd_machine.specs.Machine.{route_tests}

-- ---- entries

push_default : (entries : List Confirmation) (i : ℕ) → get_or (entries ++ nothing ∷ []) i nothing ≡ get_or entries i nothing
push_default [] zero = refl
push_default [] (suc i) = refl
push_default (e ∷ entries) zero = refl
push_default (e ∷ entries) (suc i) = push_default entries i

same_entry : (entries : List Confirmation) (line i : ℕ) → get_or (if line == length entries then entries ++ nothing ∷ [] else entries) i nothing ≡ get_or entries i nothing
same_entry entries line i = go (line == length entries)
  where
    go : (b : Bool) → get_or (if b then entries ++ nothing ∷ [] else entries) i nothing ≡ get_or entries i nothing
    go true = push_default entries i
    go false = refl

sized_entered : (keys : List Key) (key : Key) (entries : List Confirmation) (line : ℕ) → line ≡ position_or_len (same_key key) keys → length entries ≡ length keys → length (if line == length entries then entries ++ nothing ∷ [] else entries) ≡ length (entered keys key)
sized_entered keys key entries line at sized =
    let most : position_or_len (same_key key) keys ≤ length keys = prefix_len-le-length (λ x. not (same_key key x)) keys in
    go (nat_lt (position_or_len (same_key key) keys) (length keys)) refl most (is_some-position (same_key key) keys)
  where
    there : Bool → Option ℕ
    there b = cond b (Some (position_or_len (same_key key) keys)) None

    go : (b : Bool) → nat_lt (position_or_len (same_key key) keys) (length keys) ≡ b → position_or_len (same_key key) keys ≤ length keys → is_some (cond b (Some (position_or_len (same_key key) keys)) None) ≡ list_any (same_key key) keys
        → length (if line == length entries then entries ++ nothing ∷ [] else entries) ≡ length (entered keys key)
    go true e most any =
        let below : line < length entries = (let k = ltb-true (position_or_len (same_key key) keys) (length keys) e in omega (arith, k, at, sized)) in
        let apart : (line == length entries) ≡ false = ne_eqb line (length entries) (λ q. omega (arith, q, below)) in
        ap (λ b. length (if b then entries ++ nothing ∷ [] else entries)) apart ∙ sized ∙ sym (ap (λ b. length (if b then keys else keys ++ key ∷ [])) (sym any))
    go false e most any =
        let above = ltb-false (position_or_len (same_key key) keys) (length keys) e in
        let same : (line == length entries) ≡ true = eq-eqb line (length entries) (omega (arith, above, most, at, sized)) in
        let long = length-append entries (nothing ∷ []) in
        let keyed = length-append keys (key ∷ []) in
        ap (λ b. length (if b then entries ++ nothing ∷ [] else entries)) same ∙ long ∙ ap (λ n. n + 1) sized ∙ sym keyed ∙ sym (ap (λ b. length (if b then keys else keys ++ key ∷ [])) (sym any))

counted_push : (ns : List Nomination) (n : Nomination) → ◌≡◌ {A = ℕ × ℕ} (length (ns ++ n ∷ []), sum_by (λ (m : Nomination). m.quantity) (ns ++ n ∷ [])) (length ns + 1, sum_by (λ (m : Nomination). m.quantity) ns + n.quantity)
counted_push ns n =
    let long = length-append ns (n ∷ []) in
    let sum : sum_by (λ (m : Nomination). m.quantity) (ns ++ n ∷ []) ≡ sum_by (λ (m : Nomination). m.quantity) ns + n.quantity = sum_by-append (λ (m : Nomination). m.quantity) ns (n ∷ []) ∙ ap (λ k. sum_by (λ (m : Nomination). m.quantity) ns + k) (alone n.quantity) in
    λ i. (long i, sum i)
  where
    alone : (n : ℕ) → 0 + n ≡ n
    alone n = omega arith

abbrev with_one : ℕ × ℕ → ℕ → ℕ × ℕ
with_one a n = (a.0 + 1, a.1 + n)

-- ---- the frozen question

frozen_stays : (day : Day) (h : History) (moment : ℕ) (party : List ℕ) (key : Key) (amount : ℕ) (o : Option Posed) → refusal_of day h (Nominate moment party key amount) ≡ None → IsSound day h → IsFrozenAs day h o
    → IsFrozenAs day (h ++ (Nominate moment party key amount, reply_of day h (Nominate moment party key amount)) ∷ []) o
frozen_stays day h moment party key amount None none sound e = frozen_more h (Nominate moment party key amount, reply_of day h (Nominate moment party key amount)) ∙ e
frozen_stays day h moment party key amount (Some q) none sound e =
    let stays = question_stays day h moment party key amount (reply_of day h (Nominate moment party key amount)) (none, refl) (sound.past e.0) in
    (frozen_more h (Nominate moment party key amount, reply_of day h (Nominate moment party key amount)) ∙ e.0, e.1 ∙ sym stays)

-- ---- the nomination

last_test : (r : Result Ends RouteFault) (a b c : Bool × Refusal) → AllFalse (route_tests r ++ a ∷ b ∷ c ∷ []) → c.0 ≡ false
last_test (Ok ends) a b c all = all.1.1.0
last_test (Err fault) a b c all = absurd (false≢true (sym all.0))

nominate_short : (day : Day) (h : History) (moment : ℕ) (party : List ℕ) (key : Key) (amount : ℕ) → refusal_of day h (Nominate moment party key amount) ≡ None → length h < 1_000_000
nominate_short day h moment party key amount none =
    let tests = all_false (tests_of day h (Nominate moment party key amount)) none in
    not_full h (last_test (ends_of day.holdings.pipeline key.origin key.dest) _ _ _ tests.1.1.1)

pub nominate_more : (day : Day) (h : History) (moment : ℕ) (party : List ℕ) (key : Key) (amount : ℕ) (s : Tables) (stamp cycle class line : ℕ) (lines : List Nomination) (entries : Vec Confirmation)
    → stamp ≡ max s.stamp moment → AreTablesOf day s h → IsSound day h → refusal_of day h (Nominate moment party key amount) ≡ None
    → cycle_at day stamp ≡ Some cycle → class ≡ class_in day key → numbered s.lines key ≡ Ok line → lines ≡ s.lines ++ nomination key cycle class amount ∷ []
    → entries.items ≡ (if line == length s.confirmations.items then s.confirmations.items ++ nothing ∷ [] else s.confirmations.items) → (added : ℕ) → added ≡ amount → added ≤ 1000000000
    → AreTablesOf day (record s { stamp = stamp; lines = lines; confirmations = entries; nominations = s.nominations + 1; dekatherms = s.dekatherms + added; calls = s.calls + 1 })
    (h ++ (Nominate moment party key amount, reply_of day h (Nominate moment party key amount)) ∷ [])
nominate_more day h moment party key amount s stamp cycle class line lines entries is kept sound none at classed number done entered_is added add little =
    let ev : Event = Nominate moment party key amount in
    let p : Event × Reply = (Nominate moment party key amount, reply_of day h (Nominate moment party key amount)) in
    let short : length h < 1_000_000 = nominate_short day h moment party key amount none in
    let stamped : stamp ≡ stamp_of h ev = is ∙ ap (λ n. max n moment) kept.stamp in
    let cycled : cycle ≡ cycle_now day h ev = ap (λ o. unwrap_or o 0) (sym at ∙ ap (cycle_at day) stamped) in
    let more : nominations day (h ++ p ∷ []) ≡ nominations day h ++ nomination key (cycle_now day h ev) (class_in day key) amount ∷ [] = nominations_more day h p in
    let lines_is : lines ≡ nominations day (h ++ p ∷ []) = done ∙ ap₂ (λ (ns : List Nomination) (n : Nomination). ns ++ n ∷ []) kept.lines (λ i. nomination key (cycled i) (classed i) amount) ∙ sym more in
    record {
      stamp = is ∙ ap (λ n. max n moment) kept.stamp ∙ sym (stamp_more h p);
      cycle = kept.cycle ∙ sym (cycle_on day h p s kept short refl);
      round = kept.round ∙ sym (round_on day h p s kept short refl);
      cut = kept.cut ∙ sym (cut_more h p);
      frozen = frozen_stays day h moment party key amount s.frozen none sound kept.frozen;
      lines = lines_is;
      sized = ap length entered_is ∙ sized_entered (lines_of s.lines) key s.confirmations.items line (line_is s.lines key line number) (kept.sized ∙ ap (λ (ns : List Nomination). length (lines_of ns)) (sym kept.lines)) ∙ ap length (sym (lines_push s.lines (nomination key cycle class amount)) ∙ ap lines_of (sym done)) ∙ ap (λ (ns : List Nomination). length (lines_of ns)) lines_is;
      confirmed = λ other. subst (Tells (h ++ p ∷ []) other) (sym (ap (λ es. get_or es other nothing) entered_is ∙ same_entry s.confirmations.items line other)) (tells_on day h p s kept short refl other (λ end. response_more other end h p) (waived_more other h p) (get_or s.confirmations.items other nothing) (kept.confirmed other));
      limited = kept.limited;
      in_force = kept.in_force ∙ sym (elements_more (elements_of day.holdings.pipeline) h p);
      in_effect = effect_on day h p s kept short refl (schedules_more h p);
      five = kept.five;
      counted = ap length (schedules_more h p) ∙ kept.counted ∙ sym (cycle_on day h p s kept short refl);
      before = ap (λ ss. get_or ss 0 []) (schedules_more h p) ∙ kept.before;
      accepted = ap (λ (a : ℕ × ℕ). (a.0 + 1, a.1 + added)) kept.accepted ∙ ap (λ n. with_one (accepted day h) n) add ∙ sym (ap (λ (ns : List Nomination). (length ns, sum_by (λ n. n.quantity) ns)) more ∙ counted_push (nominations day h) (nomination key (cycle_now day h ev) (class_in day key) amount));
      small = (let k = kept.small in omega (arith, k, little));
      few_nominations = (let k = kept.few_nominations in let l = longer day h p s kept short in omega (arith, k, l));
      calls = calls_up day h p s kept short refl;
      few_calls = few_calls_on day h p s kept short;
      few = few_on day h p s kept short;
      settled = settled_on day h p s kept short refl;
      running = frozen_on day h p s kept short refl (frozen_more h p);
      few_rounds = rounds_on day h p s kept short refl;
    }

pub nominate_classed : (day : Day) (h : History) (moment : ℕ) (party : List ℕ) (key : Key) (amount : ℕ) → IsDay day → refusal_of day h (Nominate moment party key amount) ≡ None → IsClassed day key
nominate_classed day h moment party key amount is_day none =
    let n = is_nominated day h moment party key amount (number_of h) (cycle_now day h (Nominate moment party key amount)) (line_number day h key) (none, refl) in
    is_classed day key n.agreed n.ends is_day.holdings n.found n.routed
