-- What holds of the nominations that a legal history accepts: each is of a line with a route and a class, for a cycle of the day, and their cycles never fall.
use Rattle.std.proofs.Common.{◌≡◌, ℕ, ◌+◌, ◌<◌, ◌≤◌, Bool, true, false, nat_le, nat_lt, ◌==◌, ◌&&◌, List, [], ◌∷◌, ◌++◌, get_or, take, All, Option, Some, None, Result, Ok, Err, refl, sym, subst, ap, ap₂, ◌∙◌, arith, cond}
use Rattle.std.specs.List.{position, filter_map}
use Rattle.std.specs.Option.{option_map, unwrap_or, is_none}
use Rattle.std.specs.Result.{result_unwrap_or}
use Rattle.std.proofs.lemmas.Bool.{false≢true, leb-true, leb-false, ltb-true, ltb-false}
use Rattle.std.proofs.lemmas.List.Elements.{filter_map-append, All-append, All-push, All-nil}
use Rattle.std.proofs.lemmas.List.Quantifiers.{position-Some}
use Rattle.gd_rules.specs.Class as rules
use Rattle.gd_rules.specs.GasDay as gas_day
use Rattle.gd_rules.specs.Lines.{Key, Nomination}
use Rattle.gd_rules.specs.Limits.{classes}
use Rattle.gd_calendar.specs.Calendar.{received_times}
use Rattle.gd_lines.specs.Numbering.{nomination}
use Rattle.gd_system.specs.Pipeline.{Pipeline}
use Rattle.gd_system.specs.Route.{ends_of}
use Rattle.gd_system.specs.declared.part.Ends.{Ends}
use Rattle.gd_system.specs.declared.RouteFault.{RouteFault}
use Rattle.gd_contracts.specs.Known.{AreHoldings, IsServed}
use Rattle.gd_contracts.specs.Classes.{route_between, firm_between, bought, class_between, class_under, class_answer}
use Rattle.gd_contracts.specs.declared.contract.Contract.{Contract}
use Rattle.gd_contracts.specs.declared.contract.Service.{Service}
use Rattle.gd_contracts.specs.declared.contract.Service.TheVariants.{Firm, Interruptible}
use Rattle.gd_contracts.proofs.ContractNames.{found_served}
use Rattle.gd_machine.specs.declared.event.Event.{Event}
use Rattle.gd_machine.specs.declared.event.Event.TheVariants.{Nominate}
use Rattle.gd_machine.specs.declared.reply.Reply.{Reply}
use Rattle.gd_machine.specs.declared.reply.Reply.TheVariants.{Accepted}
use Rattle.gd_machine.specs.declared.refusal.Refusal.{Refusal}
use Rattle.gd_machine.specs.Day.{Day, IsDay, cycle_at}
use Rattle.gd_machine.specs.History.{History, last_stamp, stamp_of}
use Rattle.gd_machine.specs.Asking.{nomination_of, nominations, class_in}
use Rattle.gd_machine.specs.Known.{IsRouted, IsClassed}
use Rattle.gd_machine.specs.Machine.{IsAccepted, IsLegal, tests_of, route_tests, contract_of}
use Rattle.gd_machine.proofs.Legal.{AllFalse, all_false}
use Rattle.gd_machine.proofs.Steps.{stamp_more}
use Rattle.gd_machine.proofs.Prefixes.{after_each}

pub nominations_more : (day : Day) (h : History) (p : Event × Reply) → nominations day (h ++ p ∷ []) ≡ nominations day h ++ filter_map (nomination_of day) (p ∷ [])
nominations_more day h p = filter_map-append (nomination_of day) h (p ∷ [])

-- ---- ends

route_told : (r : Result Ends RouteFault) (rest : List (Bool × Refusal)) → AllFalse (route_tests r ++ rest) → (ends : Ends) × (r ≡ Ok ends)
route_told (Ok ends) rest all = (ends, refl)
route_told (Err fault) rest all = absurd (false≢true (sym all.0))

is_there : {X : Type 0} (o : Option X) → is_none o ≡ false → (x : X) × (o ≡ Some x)
is_there (Some x) e = (x, refl)
is_there None e = absurd (false≢true (sym e))

-- what the tests of an accepted nomination tell: its cycle, its contract and its ends
pub record IsNominated (day : Day) (h : History) (moment : ℕ) (party : List ℕ) (key : Key) (quantity cycle : ℕ) : Type 0 where
  pub at : cycle_at day (stamp_of h (Nominate moment party key quantity)) ≡ Some cycle
  pub agreed : Contract
  pub found : contract_of day key ≡ Some agreed
  pub ends : Ends
  pub routed : ends_of day.holdings.pipeline key.origin key.dest ≡ Ok ends

abbrev cycle_in : Reply → ℕ
cycle_in (Accepted number cycle line) = cycle
cycle_in reply = 0

pub is_nominated : (day : Day) (h : History) (moment : ℕ) (party : List ℕ) (key : Key) (quantity number cycle line : ℕ) → IsAccepted day h (Nominate moment party key quantity, Accepted number cycle line) → IsNominated day h moment party key quantity cycle
is_nominated day h moment party key quantity number cycle line accepted =
    let tests = all_false (tests_of day h (Nominate moment party key quantity)) accepted.0 in
    let at = is_there (cycle_at day (stamp_of h (Nominate moment party key quantity))) tests.0 in
    let agreed = is_there (contract_of day key) tests.1.0 in
    let routed = route_told (ends_of day.holdings.pipeline key.origin key.dest) _ tests.1.1.1 in
    let same : cycle ≡ at.0 = ap cycle_in accepted.1 ∙ ap (λ o. unwrap_or o 0) at.1 in
    record { at = at.1 ∙ ap Some (sym same); agreed = agreed.0; found = agreed.1; ends = routed.0; routed = routed.1 }

-- ---- classes

firm_within : (b c : Bool) → (1 ≤ cond b 1 (cond c 2 3)) × (cond b 1 (cond c 2 3) ≤ classes)
firm_within true c = (omega arith, omega arith)
firm_within false true = (omega arith, omega arith)
firm_within false false = (omega arith, omega arith)

class_within : (p : Pipeline) (service : Service) (line : Ends) → IsServed p service → (class : ℕ) × (class_between p line (bought p service) ≡ Ok class) × (1 ≤ class) × (class ≤ classes)
class_within p (Firm origin dest) line (ends, e) =
    let bounds = firm_within ((line.origin.0 == ends.origin.0) && (line.dest.0 == ends.dest.0)) (rules.lies_on (route_between p ends) (route_between p line)) in
    (rules.class_of (rules.Service.Firm ends.origin.0 ends.dest.0 (route_between p ends)) line.origin.0 line.dest.0 (route_between p line), ap (λ r. class_between p line (firm_between p r)) e, bounds.0, bounds.1)
class_within p (Interruptible band) line served = (3 + band, refl, omega (arith, served), omega (arith, served))

pub is_classed : (day : Day) (key : Key) (agreed : Contract) (ends : Ends) → AreHoldings day.holdings → contract_of day key ≡ Some agreed → ends_of day.holdings.pipeline key.origin key.dest ≡ Ok ends → IsClassed day key
is_classed day key agreed ends holdings found routed =
    let served = found_served day.holdings.pipeline day.holdings.contracts key.contract agreed holdings.served found in
    let class = class_within day.holdings.pipeline agreed.service ends served in
    let told : class_answer day.holdings key.contract key.origin key.dest ≡ Ok class.0 = ap₂ (class_under day.holdings.pipeline) found routed ∙ class.1 in
    let is : class_in day key ≡ class.0 = ap (λ r. result_unwrap_or r 0) told in
    (told ∙ ap Ok (sym is), subst (λ c. 1 ≤ c) (sym is) class.2, subst (λ c. c ≤ classes) (sym is) class.3)

-- ---- each nomination

module _ (day : Day) (is_day : IsDay day) where
  routed_one : (h : History) (p : Event × Reply) → IsAccepted day h p → All (λ n. IsRouted day n.key) (filter_map (nomination_of day) (p ∷ []))
  routed_one h (Nominate moment party key quantity, Accepted number cycle line) accepted =
      let n = is_nominated day h moment party key quantity number cycle line accepted in
      All-push (λ n. IsRouted day n.key) [] (nomination key cycle (class_in day key) quantity) (All-nil (λ n. IsRouted day n.key)) (n.ends, n.routed)
  routed_one h p accepted = All-nil (λ n. IsRouted day n.key)

  classed_one : (h : History) (p : Event × Reply) → IsAccepted day h p → All (λ n. IsClassed day n.key) (filter_map (nomination_of day) (p ∷ []))
  classed_one h (Nominate moment party key quantity, Accepted number cycle line) accepted =
      let n = is_nominated day h moment party key quantity number cycle line accepted in
      All-push (λ n. IsClassed day n.key) [] (nomination key cycle (class_in day key) quantity) (All-nil (λ n. IsClassed day n.key)) (is_classed day key n.agreed n.ends is_day.holdings n.found n.routed)
  classed_one h p accepted = All-nil (λ n. IsClassed day n.key)

  -- what holds of the nomination that an accepted event brings holds of all
  each_nomination : (h : History) → IsLegal day h → (P : Nomination → Type 0) → ((g : History) (p : Event × Reply) → IsAccepted day g p → All P (filter_map (nomination_of day) (p ∷ []))) → (n : ℕ) → All P (nominations day (take n h))
  each_nomination h legal P one =
      after_each day h legal (λ g. All P (nominations day g)) (All-nil P)
      (λ k p at accepted before. subst (All P) (sym (nominations_more day (take k h) p)) (All-append P (nominations day (take k h)) (filter_map (nomination_of day) (p ∷ [])) before (one (take k h) p accepted)))

  pub prefix_routed : (h : History) → IsLegal day h → (n : ℕ) → All (λ n. IsRouted day n.key) (nominations day (take n h))
  prefix_routed h legal = each_nomination h legal (λ n. IsRouted day n.key) routed_one

  pub prefix_classed : (h : History) → IsLegal day h → (n : ℕ) → All (λ n. IsClassed day n.key) (nominations day (take n h))
  prefix_classed h legal = each_nomination h legal (λ n. IsClassed day n.key) classed_one

-- ---- cycles

-- a cycle by its place among the received times
placed : (received : List ℕ) (stamp cycle : ℕ) → gas_day.cycle_of received stamp ≡ Some cycle → (i : ℕ) × (position (λ last. nat_le stamp last) received ≡ Some i) × (i + 1 ≡ cycle)
placed received stamp cycle e = go (position (λ last. nat_le stamp last) received) refl
  where
    told : Option ℕ → ℕ
    told None = 0
    told (Some n) = n

    some : Option ℕ → Bool
    some None = false
    some (Some n) = true

    go : (o : Option ℕ) → position (λ last. nat_le stamp last) received ≡ o → (i : ℕ) × (position (λ last. nat_le stamp last) received ≡ Some i) × (i + 1 ≡ cycle)
    go None p = absurd (false≢true (ap some (ap (option_map (λ place. place + 1)) (sym p) ∙ e)))
    go (Some i) p = (i, p, ap told (ap (option_map (λ place. place + 1)) (sym p) ∙ e))

-- a later stamp is of no earlier cycle
no_earlier : (received : List ℕ) (former stamp c cycle : ℕ) → former ≤ stamp → gas_day.cycle_of received former ≡ Some c → gas_day.cycle_of received stamp ≡ Some cycle → c ≤ cycle
no_earlier received former stamp c cycle on e f =
    let i = placed received former c e in
    let j = placed received stamp cycle f in
    let first = position-Some (λ last. nat_le former last) received i.0 0 i.1 in
    let then = position-Some (λ last. nat_le stamp last) received j.0 0 j.1 in
    let reached : stamp ≤ get_or received j.0 0 = leb-true stamp (get_or received j.0 0) then.1 in
    go i.0 j.0 first.2 reached i.2 j.2
  where
    go : (i j : ℕ) → ((k : ℕ) → k < i → nat_le former (get_or received k 0) ≡ false) → stamp ≤ get_or received j 0 → i + 1 ≡ c → j + 1 ≡ cycle → c ≤ cycle
    go i j before reached m n = either (nat_lt j i) refl
      where
        either : (b : Bool) → nat_lt j i ≡ b → c ≤ cycle
        either true e =
            let below : j < i = ltb-true j i e in
            let past : get_or received j 0 < former = leb-false former (get_or received j 0) (before j below) in
            absurd (omega (arith, past, reached, on))
        either false e = let above : i ≤ j = ltb-false j i e in omega (arith, above, m, n)

in_five : (moments : List ℕ) (stamp cycle : ℕ) → gas_day.cycle_of (received_times moments) stamp ≡ Some cycle → (1 ≤ cycle) × (cycle ≤ 5)
in_five moments stamp cycle e =
    let i = placed (received_times moments) stamp cycle e in
    let found = position-Some (λ last. nat_le stamp last) (received_times moments) i.0 0 i.1 in
    let within : i.0 < 5 = found.0 in
    (omega (arith, i.2), omega (arith, i.2, within))

module _ (day : Day) where
  day_one : (h : History) (p : Event × Reply) → IsAccepted day h p → All (λ n. (1 ≤ n.cycle) × (n.cycle ≤ 5)) (filter_map (nomination_of day) (p ∷ []))
  day_one h (Nominate moment party key quantity, Accepted number cycle line) accepted =
      let n = is_nominated day h moment party key quantity number cycle line accepted in
      All-push (λ n. (1 ≤ n.cycle) × (n.cycle ≤ 5)) [] (nomination key cycle (class_in day key) quantity) (All-nil (λ n. (1 ≤ n.cycle) × (n.cycle ≤ 5))) (in_five day.moments (stamp_of h (Nominate moment party key quantity)) cycle n.at)
  day_one h p accepted = All-nil (λ n. (1 ≤ n.cycle) × (n.cycle ≤ 5))

  pub prefix_in_day : (h : History) → IsLegal day h → (n : ℕ) → All (λ n. (1 ≤ n.cycle) × (n.cycle ≤ 5)) (nominations day (take n h))
  prefix_in_day h legal =
      after_each day h legal (λ g. All (λ n. (1 ≤ n.cycle) × (n.cycle ≤ 5)) (nominations day g)) (All-nil (λ n. (1 ≤ n.cycle) × (n.cycle ≤ 5)))
      (λ k p at accepted before. subst (All (λ n. (1 ≤ n.cycle) × (n.cycle ≤ 5))) (sym (nominations_more day (take k h) p)) (All-append (λ n. (1 ≤ n.cycle) × (n.cycle ≤ 5)) (nominations day (take k h)) (filter_map (nomination_of day) (p ∷ [])) before (day_one (take k h) p accepted)))

  -- no nomination is for a cycle after that of a stamp from now on
  abbrev pub Rising : History → Type 0
  Rising h = (stamp cycle : ℕ) → last_stamp h ≤ stamp → cycle_at day stamp ≡ Some cycle → All (λ n. n.cycle ≤ cycle) (nominations day h)

  rising_one : (h : History) (p : Event × Reply) → IsAccepted day h p → (stamp cycle : ℕ) → stamp_of h p.0 ≤ stamp → cycle_at day stamp ≡ Some cycle → All (λ n. n.cycle ≤ cycle) (filter_map (nomination_of day) (p ∷ []))
  rising_one h (Nominate moment party key quantity, Accepted number c line) accepted stamp cycle on e =
      let n = is_nominated day h moment party key quantity number c line accepted in
      All-push (λ n. n.cycle ≤ cycle) [] (nomination key c (class_in day key) quantity) (All-nil (λ n. n.cycle ≤ cycle)) (no_earlier (received_times day.moments) (stamp_of h (Nominate moment party key quantity)) stamp c cycle on n.at e)
  rising_one h p accepted stamp cycle on e = All-nil (λ n. n.cycle ≤ cycle)

  rising_more : (g : History) (p : Event × Reply) → IsAccepted day g p → Rising g → Rising (g ++ p ∷ [])
  rising_more g p accepted before stamp cycle on e =
      let now : stamp_of g p.0 ≤ stamp = subst (λ s. s ≤ stamp) (stamp_more g p) on in
      let old : last_stamp g ≤ stamp = omega (arith, now) in
      subst (All (λ n. n.cycle ≤ cycle)) (sym (nominations_more day g p)) (All-append (λ n. n.cycle ≤ cycle) (nominations day g) (filter_map (nomination_of day) (p ∷ [])) (before stamp cycle old e) (rising_one g p accepted stamp cycle now e))

  none_rising : Rising []
  none_rising stamp cycle on e = All-nil (λ n. n.cycle ≤ cycle)

  pub prefix_rising : (h : History) → IsLegal day h → (k : ℕ) → Rising (take k h)
  prefix_rising h legal k = after_each day h legal Rising none_rising (λ j p at accepted before. rising_more (take j h) p accepted before) k
