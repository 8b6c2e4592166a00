-- No more has flowed of a line than its schedule in effect: by the floors of each published schedule, and since a cycle that is skipped keeps the former one.
use Rattle.std.proofs.Common.{◌≡◌, ℕ, zero, suc, ◌+◌, ◌-◌, ◌<◌, ◌≤◌, Bool, true, false, nat_le, nat_lt, List, [], ◌∷◌, ◌++◌, length, take, get_or, All, Ok, Result, refl, sym, subst, ap, ap₂, ◌∙◌, arith}
use Rattle.std.specs.Prelude.{if◌then◌else◌, fold}
use Rattle.std.specs.List.{list_any}
use Rattle.std.proofs.lemmas.Bool.{ltb-true, ltb-false}
use Rattle.std.proofs.lemmas.List.{length-append, get_or_append_left, take_all}
use Rattle.std.proofs.lemmas.List.Elements.{All-push, All-nil, All-filter}
use Rattle.std.proofs.lemmas.List.FromFn.{get_or-map-range_with_len, length-map-range_with_len}
use Rattle.gd_rules.specs.Bounds as bounds
use Rattle.gd_rules.specs.GasDay as gas_day
use Rattle.gd_rules.specs.Question.{Line, line, no_line}
use Rattle.gd_rules.specs.Schedule.{quantity, IsAllowed}
use Rattle.gd_rules.specs.Lines.{Key, Nomination, lines_of, entered, same_key, no_key}
use Rattle.gd_rules.proofs.Elapsed.{after_within}
use Rattle.gd_rules.proofs.FloorBounds.{floor_above}
use Rattle.gd_system.specs.Pipeline.{Pipeline}
use Rattle.gd_system.specs.Route.{ends_of}
use Rattle.gd_system.specs.declared.part.Ends.{Ends}
use Rattle.gd_system.specs.declared.RouteFault.{RouteFault}
use Rattle.gd_certificate.specs.Checked.{Certificate, IsRight}
use Rattle.gd_question.specs.Posing.{Posed}
use Rattle.gd_machine.specs.declared.event.Event.{Event}
use Rattle.gd_machine.specs.declared.event.Event.TheVariants.{Nominate, Respond, PostCapacity, Freeze, Publish, Declare, Waive, Skip}
use Rattle.gd_machine.specs.declared.reply.Reply.{Reply}
use Rattle.gd_machine.specs.Day.{Day, IsDay, length_of}
use Rattle.gd_machine.specs.History.{History, cycle_of, schedules, scheduled, is_waived}
use Rattle.gd_machine.specs.Asking.{nominations, counted, line_count, key_of, class_of, former_of, elapsed_of, confirmed_of, floor_of, line_over, line_of, question}
use Rattle.gd_machine.specs.Known.{IsRouted, flowed_until}
use Rattle.gd_machine.specs.Machine.{IsAccepted, IsLegal, AllPass, Passes, tests_of}
use Rattle.gd_machine.specs.Same.{same_question}
use Rattle.gd_machine.proofs.Steps.{schedules_more}
use Rattle.gd_machine.proofs.Legal.{all_false, not_false}
use Rattle.gd_machine.proofs.Same.{same_tells}
use Rattle.gd_machine.proofs.Prefixes.{after_each}
use Rattle.gd_machine.proofs.Nominations.{prefix_routed}
use Rattle.gd_machine.proofs.Counting.{cycle_more, prefix_split, line_count_grows}

-- ---- hours

passed_few : (n : ℕ) → gas_day.hours_over n ≤ 13
passed_few n = go (n - 1)
  where
    go : (i : ℕ) → get_or (0 ∷ 0 ∷ 5 ∷ 9 ∷ 13 ∷ []) i 0 ≤ 13
    go zero = omega arith
    go (suc zero) = omega arith
    go (suc (suc zero)) = omega arith
    go (suc (suc (suc zero))) = omega arith
    go (suc (suc (suc (suc zero)))) = omega arith
    go (suc (suc (suc (suc (suc i))))) = omega arith

pub passed_within : (day : Day) → IsDay day → (n : ℕ) → gas_day.hours_over n ≤ length_of day
passed_within day is_day n = let few = passed_few n in let long = is_day.calendar.hours.1 in omega (arith, few, long)

-- ---- the elapsed quantity by its schedules

module _ (passed : ℕ → ℕ) (hours : ℕ) where
  -- it rests on the former schedules alone
  pub elapsed_same : (s t : ℕ → ℕ) (c : ℕ) → ((i : ℕ) → i < c → s i ≡ t i) → bounds.elapsed passed hours s c ≡ bounds.elapsed passed hours t c
  elapsed_same s t zero h = refl
  elapsed_same s t (suc c) h =
      ap₂ (λ a b. if nat_le (suc c) 2 then 0 else bounds.elapsed_after a b (passed (suc c) - passed c) (hours - passed c)) (elapsed_same s t c (λ i k. h i (omega (arith, k)))) (h c (omega arith))

  elapsed_next : (s : ℕ → ℕ) (c : ℕ) → ((n : ℕ) → passed n ≤ hours) → bounds.elapsed passed hours s c ≤ s c → bounds.elapsed passed hours s (suc c) ≤ s c
  elapsed_next s c ends h = go (nat_le (suc c) 2)
    where
      go : (b : Bool) → (if b then 0 else bounds.elapsed_after (bounds.elapsed passed hours s c) (s c) (passed (suc c) - passed c) (hours - passed c)) ≤ s c
      go true = omega arith
      go false = after_within (bounds.elapsed passed hours s c) (s c) (passed (suc c) - passed c) (hours - passed c) h (let end = ends (suc c) in omega (arith, end))

  -- what has flowed at a cycle is within the schedule before it, if that held before
  pub elapsed_within : (s : ℕ → ℕ) (c : ℕ) → ((n : ℕ) → passed n ≤ hours) → ((i : ℕ) → 1 ≤ i → i < c → bounds.elapsed passed hours s i ≤ s i) → bounds.elapsed passed hours s c ≤ s (c - 1)
  elapsed_within s zero ends h = omega arith
  elapsed_within s (suc zero) ends h = omega arith
  elapsed_within s (suc (suc c)) ends h = subst (λ n. bounds.elapsed passed hours s (suc (suc c)) ≤ s n) (less c) (elapsed_next s (suc c) ends (h (suc c) (omega arith) (omega arith)))
    where
      less : (c : ℕ) → suc c ≡ suc (suc c) - 1
      less c = omega arith

-- ---- lines

keys_entered : (P : Key → Type 0) (keys : List Key) (key : Key) → All P keys → P key → All P (entered keys key)
keys_entered P keys key all one = go (list_any (same_key key) keys)
  where
    go : (b : Bool) → All P (if b then keys else keys ++ key ∷ [])
    go true = all
    go false = All-push P keys key all one

keys_folded : (P : Key → Type 0) (ns : List Nomination) (keys : List Key) → All P keys → All (λ n. P n.key) ns → All P (fold (λ ks n. entered ks n.key) keys ns)
keys_folded P [] keys all each = all
keys_folded P (n ∷ ns) keys all each = keys_folded P ns (entered keys n.key) (keys_entered P keys n.key all (each zero n (omega arith))) (λ i d k. each (suc i) d (omega (arith, k)))

-- what holds of each nomination's line holds of each line
pub keys_hold : (P : Key → Type 0) (ns : List Nomination) → All (λ n. P n.key) ns → All P (lines_of ns)
keys_hold P ns each = keys_folded P ns [] (All-nil P) each

module _ (day : Day) where
  pub key_holds : (h : History) (P : Key → Type 0) → All (λ n. P n.key) (nominations day h) → (i : ℕ) → i < line_count day h → P (key_of day h i)
  key_holds h P each i k = keys_hold P (counted day h) (All-filter (λ n. nat_le n.cycle (cycle_of h)) (λ n. P n.key) (nominations day h) each) i no_key k

  pub question_length : (h : History) → length (question day h).asked.lines ≡ line_count day h
  question_length h = length-map-range_with_len (line_of day h) 0 (line_count day h)

  pub question_line : (h : History) (i : ℕ) → i < line_count day h → line (question day h).asked i ≡ line_of day h i
  question_line h i k = get_or-map-range_with_len (line_of day h) 0 (line_count day h) i i no_line k (omega arith)

  over_routed : (p : Pipeline) (r : Result Ends RouteFault) (ends : Ends) (class floor ceiling : ℕ) → r ≡ Ok ends → (line_over p r class floor ceiling).floor ≡ floor
  over_routed p r ends class floor ceiling e = ap (λ x. (line_over p x class floor ceiling).floor) e

  pub line_floor : (h : History) (i : ℕ) → i < line_count day h → IsRouted day (key_of day h i) → (line (question day h).asked i).floor ≡ floor_of day h i
  line_floor h i k routed =
      ap (λ (l : Line). l.floor) (question_line h i k)
      ∙ over_routed day.holdings.pipeline (ends_of day.holdings.pipeline (key_of day h i).origin (key_of day h i).dest) routed.0 (class_of day h i) (floor_of day h i) (confirmed_of day h i) routed.1

-- ---- what is published

pub published_question : (day : Day) (h : History) (moment : ℕ) (certificate : Certificate) (reply : Reply) → IsAccepted day h (Publish moment certificate, reply) → certificate.question ≡ question day h
published_question day h moment certificate reply accepted =
    let tests = all_false (tests_of day h (Publish moment certificate)) accepted.0 in
    same_tells certificate.question (question day h) (not_false (same_question certificate.question (question day h)) tests.1.1.0)

pub published_allowed : (day : Day) (h : History) (moment : ℕ) (certificate : Certificate) (reply : Reply) → IsAccepted day h (Publish moment certificate, reply) → IsRight certificate → IsAllowed (question day h).asked certificate.schedule
published_allowed day h moment certificate reply accepted right =
    subst (λ (q : Posed). IsAllowed q.asked certificate.schedule) (published_question day h moment certificate reply accepted) right.0

-- ---- schedules in effect

-- what holds of each schedule in effect and of one more holds of all
appended : (P : List ℕ → Type 0) (ss : List (List ℕ)) (s : List ℕ) → ((c : ℕ) → P (get_or ss c [])) → P s → (c : ℕ) → P (get_or (ss ++ s ∷ []) c [])
appended P [] s all one zero = one
appended P [] s all one (suc c) = all (suc c)
appended P (t ∷ ss) s all one zero = all zero
appended P (t ∷ ss) s all one (suc c) = appended P ss s (λ c. all (suc c)) one c

pub last_appended : (ss : List (List ℕ)) (s : List ℕ) (c : ℕ) → c ≡ length ss → get_or (ss ++ s ∷ []) c [] ≡ s
last_appended [] s zero e = refl
last_appended [] s (suc c) e = absurd (omega (arith, e))
last_appended (t ∷ ss) s zero e = absurd (omega (arith, e))
last_appended (t ∷ ss) s (suc c) e = last_appended ss s c (omega (arith, e))

-- a history by its schedules in effect and by what has flowed
pub record Flows (day : Day) (h : History) : Type 0 where
  -- one for the time before Timely, and one for each cycle that is over
  pub sized : length (schedules h) ≡ cycle_of h
  -- none has a line that does not count yet
  pub fresh : (line : ℕ) → line_count day h ≤ line → (c : ℕ) → scheduled h line c ≡ 0
  pub flowing : (line c : ℕ) → 1 ≤ c → c < cycle_of h → flowed_until day h line c ≤ scheduled h line c

module _ (day : Day) (is_day : IsDay day) where
  pub covers : (h : History) → Flows day h → (line : ℕ) → elapsed_of day h line ≤ scheduled h line (cycle_of h - 1)
  covers h flows line = elapsed_within gas_day.hours_over (length_of day) (scheduled h line) (cycle_of h) (passed_within day is_day) (flows.flowing line)

  -- an event that ends no cycle
  flows_on : (h : History) (p : Event × Reply) → schedules (h ++ p ∷ []) ≡ schedules h → cycle_of (h ++ p ∷ []) ≡ cycle_of h → line_count day h ≤ line_count day (h ++ p ∷ []) → Flows day h → Flows day (h ++ p ∷ [])
  flows_on h p same cycle grows flows = record {
    sized = ap length same ∙ flows.sized ∙ sym cycle;
    fresh = λ line past c. ap (λ ss. quantity (get_or ss c []) line) same ∙ flows.fresh line (omega (arith, grows, past)) c;
    flowing = λ line c low high. subst (λ ss. bounds.elapsed gas_day.hours_over (length_of day) (λ n. quantity (get_or ss n []) line) c ≤ quantity (get_or ss c []) line) (sym same) (flows.flowing line c low (omega (arith, cycle, high)));
  }

  -- an event that ends the cycle, with this schedule in effect after it
  flows_over : (h : History) (p : Event × Reply) (s : List ℕ) → schedules (h ++ p ∷ []) ≡ schedules h ++ s ∷ [] → cycle_of (h ++ p ∷ []) ≡ cycle_of h + 1 → line_count day h ≤ line_count day (h ++ p ∷ [])
      → ((line : ℕ) → line_count day h ≤ line → quantity s line ≡ 0) → ((line : ℕ) → elapsed_of day h line ≤ quantity s line) → Flows day h → Flows day (h ++ p ∷ [])
  flows_over h p s more cycle grows none within flows = record {
    sized = ap length more ∙ length-append (schedules h) (s ∷ []) ∙ (let n = flows.sized in omega (arith, n, cycle));
    fresh = λ line past c. ap (λ ss. quantity (get_or ss c []) line) more
        ∙ appended (λ t. quantity t line ≡ 0) (schedules h) s (λ c. flows.fresh line (omega (arith, grows, past)) c) (none line (omega (arith, grows, past))) c;
    flowing = λ line c low high. flow line c low (omega (arith, high, cycle));
  }
    where
      as_before : (line c : ℕ) → c < cycle_of h → scheduled (h ++ p ∷ []) line c ≡ scheduled h line c
      as_before line c k =
          let n = flows.sized in
          ap (λ ss. quantity (get_or ss c []) line) more ∙ ap (λ t. quantity t line) (get_or_append_left (schedules h) (s ∷ []) [] c (omega (arith, k, n)))

      gone_before : (line c : ℕ) → c ≤ cycle_of h → flowed_until day (h ++ p ∷ []) line c ≡ flowed_until day h line c
      gone_before line c k = elapsed_same gas_day.hours_over (length_of day) (scheduled (h ++ p ∷ []) line) (scheduled h line) c (λ i j. as_before line i (omega (arith, j, k)))

      now : (line c : ℕ) → c ≡ cycle_of h → scheduled (h ++ p ∷ []) line c ≡ quantity s line
      now line c e =
          let n = flows.sized in
          ap (λ ss. quantity (get_or ss c []) line) more ∙ ap (λ t. quantity t line) (last_appended (schedules h) s c (omega (arith, e, n)))

      flow : (line c : ℕ) → 1 ≤ c → c ≤ cycle_of h → flowed_until day (h ++ p ∷ []) line c ≤ scheduled (h ++ p ∷ []) line c
      flow line c low high = go (nat_lt c (cycle_of h)) refl
        where
          go : (b : Bool) → nat_lt c (cycle_of h) ≡ b → flowed_until day (h ++ p ∷ []) line c ≤ scheduled (h ++ p ∷ []) line c
          go true e =
              let below : c < cycle_of h = ltb-true c (cycle_of h) e in
              let f = flows.flowing line c low below in
              let a = gone_before line c high in
              let b = as_before line c below in
              omega (arith, f, a, b)
          go false e =
              let at : c ≡ cycle_of h = (let k = ltb-false c (cycle_of h) e in omega (arith, k, high)) in
              let f : flowed_until day h line c ≤ quantity s line = subst (λ n. flowed_until day h line n ≤ quantity s line) (sym at) (within line) in
              let a = gone_before line c high in
              let b = now line c at in
              omega (arith, f, a, b)

  -- a schedule of this length says nothing of the lines past it
  past_end : (s : List ℕ) (line : ℕ) → length s ≤ line → quantity s line ≡ 0
  past_end [] line k = refl
  past_end (q ∷ s) zero k = absurd (omega (arith, k))
  past_end (q ∷ s) (suc line) k = past_end s line (omega (arith, k))

  published_within : (h : History) (s : List ℕ) → All (λ n. IsRouted day n.key) (nominations day h) → IsAllowed (question day h).asked s → Flows day h → (line : ℕ) → elapsed_of day h line ≤ quantity s line
  published_within h s routed allowed flows line = go (nat_lt line (line_count day h)) refl
    where
      go : (b : Bool) → nat_lt line (line_count day h) ≡ b → elapsed_of day h line ≤ quantity s line
      go true e =
          let k : line < line_count day h = ltb-true line (line_count day h) e in
          let size = question_length day h in
          let floor = allowed.floors line (omega (arith, k, size)) in
          let is = line_floor day h line k (key_holds day h (IsRouted day) routed line k) in
          let above : elapsed_of day h line ≤ floor_of day h line = floor_above (cycle_of h) (class_of day h line) (is_waived h line) (elapsed_of day h line) (former_of day h line) (confirmed_of day h line) in
          omega (arith, floor, is, above)
      go false e =
          let k : line_count day h ≤ line = ltb-false line (line_count day h) e in
          let none = flows.fresh line k (cycle_of h - 1) in
          let c = covers h flows line in
          omega (arith, none, c)

  level : {a : ℕ} (b : ℕ) → a ≡ b + 0 → a ≡ b
  level b e = omega (arith, e)

  flows_step : (h : History) (p : Event × Reply) → IsAccepted day h p → Passes p.0 → All (λ n. IsRouted day n.key) (nominations day h) → line_count day h ≤ line_count day (h ++ p ∷ []) → Flows day h → Flows day (h ++ p ∷ [])
  flows_step h (Publish moment certificate, reply) accepted right routed grows flows =
      let allowed = published_allowed day h moment certificate reply accepted right in
      let size : length certificate.schedule ≡ line_count day h = allowed.shape ∙ question_length day h in
      flows_over h (Publish moment certificate, reply) certificate.schedule (schedules_more h (Publish moment certificate, reply)) (cycle_more h (Publish moment certificate, reply)) grows
      (λ line past. past_end certificate.schedule line (omega (arith, size, past)))
      (published_within h certificate.schedule routed allowed flows) flows
  flows_step h (Skip moment, reply) accepted right routed grows flows =
      let at : length (schedules h) - 1 ≡ cycle_of h - 1 = (let n = flows.sized in omega (arith, n)) in
      flows_over h (Skip moment, reply) (get_or (schedules h) (length (schedules h) - 1) []) (schedules_more h (Skip moment, reply)) (cycle_more h (Skip moment, reply)) grows
      (λ line past. flows.fresh line past (length (schedules h) - 1))
      (λ line. subst (λ n. elapsed_of day h line ≤ quantity (get_or (schedules h) n []) line) (sym at) (covers h flows line)) flows
  flows_step h (Nominate moment party key amount, reply) accepted right routed grows flows = flows_on h (Nominate moment party key amount, reply) (schedules_more h (Nominate moment party key amount, reply)) (level (cycle_of h) (cycle_more h (Nominate moment party key amount, reply))) grows flows
  flows_step h (Respond moment party line end amount, reply) accepted right routed grows flows = flows_on h (Respond moment party line end amount, reply) (schedules_more h (Respond moment party line end amount, reply)) (level (cycle_of h) (cycle_more h (Respond moment party line end amount, reply))) grows flows
  flows_step h (PostCapacity moment element capacity, reply) accepted right routed grows flows = flows_on h (PostCapacity moment element capacity, reply) (schedules_more h (PostCapacity moment element capacity, reply)) (level (cycle_of h) (cycle_more h (PostCapacity moment element capacity, reply))) grows flows
  flows_step h (Freeze moment, reply) accepted right routed grows flows = flows_on h (Freeze moment, reply) (schedules_more h (Freeze moment, reply)) (level (cycle_of h) (cycle_more h (Freeze moment, reply))) grows flows
  flows_step h (Declare moment round cut, reply) accepted right routed grows flows = flows_on h (Declare moment round cut, reply) (schedules_more h (Declare moment round cut, reply)) (level (cycle_of h) (cycle_more h (Declare moment round cut, reply))) grows flows
  flows_step h (Waive moment line, reply) accepted right routed grows flows = flows_on h (Waive moment line, reply) (schedules_more h (Waive moment line, reply)) (level (cycle_of h) (cycle_more h (Waive moment line, reply))) grows flows

  no_lines : (line : ℕ) (c : ℕ) → scheduled [] line c ≡ 0
  no_lines line zero = refl
  no_lines line (suc c) = refl

  none_flows : Flows day []
  none_flows = record { sized = refl; fresh = λ line past c. no_lines line c; flowing = λ line c low high. absurd (omega (arith, low, high)) }

  pub prefix_flows : (h : History) → IsLegal day h → AllPass h → (n : ℕ) → Flows day (take n h)
  prefix_flows h legal pass n =
      after_each day h legal (Flows day) none_flows
      (λ k p at accepted before. flows_step (take k h) p accepted (pass k p at) (prefix_routed day is_day h legal k) (line_count_grows day (take k h) (prefix_split day h legal k) p) before) n

  pub all_flows : (h : History) → IsLegal day h → AllPass h → Flows day h
  all_flows h legal pass = subst (Flows day) (take_all (length h) h (omega arith)) (prefix_flows h legal pass (length h))
