-- What is kept stays right after one more nomination.
use Rattle.std.proofs.Common.{◌≡◌, ◌≢◌, ℕ, ◌+◌, ◌-◌, ◌*◌, ◌<◌, ◌≤◌, Bool, true, false, cond, List, [], ◌∷◌, ◌++◌, length, get_or, take, map, refl, sym, ap, ◌∙◌, subst, arith, leb, inl, inr}
use Rattle.std.specs.Prelude.{◌==◌, ◌⊎◌, nat_le, if◌then◌else◌, All, fold}
use Rattle.std.specs.List.{list_any, IsDistinct}
use Rattle.std.proofs.lemmas.Bool.{le-leb}
use Rattle.std.proofs.lemmas.Bool.Decides.{leb_tells}
use Rattle.std.proofs.lemmas.List.{map-append}
use Rattle.std.proofs.lemmas.List.Elements.{All-push, All-filter, filter-append}
use Rattle.std.proofs.lemmas.List.Quantifiers.{all_pairs_push}
use Rattle.std.proofs.Math.Seq.{take-length}
use Rattle.gd_rules.specs.Lines.{Key, Nomination, no_key, same_key, same_name, entered, lines_of, of_line, until, last_quantity, committed}
use Rattle.gd_rules.specs.Lists.{nominated, lines_until}
use Rattle.gd_lines.specs.Kept.{nomination_of, no_state, blank, EachLine, TellsNominated, TellsClass, Counts, IsBounded, IsFirstClass, AreKept}
use Rattle.gd_lines.specs.declared.state.State.{State}
use Rattle.gd_lines.specs.declared.state.Accepted.{Accepted}
use Rattle.gd_lines.proofs.Same.{key_self, key_other, name_is, name_self}
use Rattle.gd_lines.proofs.NextNomination as pushed
use Rattle.gd_lines.proofs.Sums.{total, part, total_changed, part_within, total_small, total_entered}
use Rattle.gd_lines.proofs.Lockstep.{zeros, each_one, apart}
use Rattle.gd_lines.proofs.NewLines as entry

-- ---- the last quantity of a line is small, and that of its last cycle
last_small : (ns : List Nomination) (a : ℕ) → a ≤ 1000000000 → All IsBounded ns → fold (λ former n. n.quantity) a ns ≤ 1000000000
last_small [] a h all = h
last_small (n ∷ ns) a h all = last_small ns n.quantity (let bounds : IsBounded n = all 0 n (omega arith) in bounds.1) (pushed.tail IsBounded n ns all)

last_of_line_small : (ns : List Nomination) (key : Key) → All IsBounded ns → last_quantity (of_line key ns) ≤ 1000000000
last_of_line_small ns key all = last_small (of_line key ns) 0 (omega arith) (All-filter (λ n. same_key key n.key) IsBounded ns all)

until_late : (ns : List Nomination) (c : ℕ) → All (λ n. n.cycle ≤ c) ns → until c ns ≡ ns
until_late ns c all = pushed.filter_all (λ n. nat_le n.cycle c) ns (λ k d lt. le-leb (get_or ns k d).cycle c (all k d lt))

last_nominated : (ns : List Nomination) (key : Key) → All IsBounded ns → nominated ns key 5 ≡ last_quantity (of_line key ns)
last_nominated ns key all =
    ap last_quantity (until_late (of_line key ns) 5 (λ k d lt. (All-filter (λ n. same_key key n.key) IsBounded ns all k d lt).0))

-- ---- sums
module _ (ns : List Nomination) (keys : List Key) (bounded : All IsBounded ns) (keyed : keys ≡ lines_of ns) where
  pub sum_small : (contract : List ℕ) → length keys ≤ 20000 → committed ns contract ≤ 20000 * 1000000000
  sum_small contract few =
      let small = total_small (λ key. same_name key.contract contract) (λ key. last_quantity (of_line key ns)) 1000000000 (lines_of ns) (λ key. last_of_line_small ns key bounded) in
      let long = ap length keyed in
      omega (arith, small, long, few)

  -- a line's last quantity is within the sum of its contract
  pub last_within : (key : Key) → IsDistinct same_key keys → nominated ns key 5 ≤ committed ns key.contract
  last_within key distinct = go (list_any (same_key key) (lines_of ns)) refl
    where
      go : (v : Bool) → list_any (same_key key) (lines_of ns) ≡ v → nominated ns key 5 ≤ committed ns key.contract
      go true e =
          let f : Key → ℕ = λ key. last_quantity (of_line key ns) in
          let p : Key → Bool = λ other. same_name other.contract key.contract in
          let within = part_within p f key (lines_of ns) (subst (IsDistinct same_key) keyed distinct) e in
          let own : part p f key ≡ f key = ap (λ b. cond b (f key) 0) (name_self key.contract) in
          let last = last_nominated ns key bounded in
          omega (arith, within, own, last)
      go false e = let none = pushed.unknown_nominated key ns 5 e in omega (arith, none)

-- ---- one more nomination
module _ (ns : List Nomination) (keys : List Key) (states : List State) (accepted : List Accepted) (sum_of : List ℕ → ℕ) (counts : List ℕ) (n : Nomination) (line : ℕ) (kept : AreKept ns keys states accepted sum_of counts) (keys' : List Key)
    (entered_is : keys' ≡ entered keys n.key) (distinct : IsDistinct same_key keys') (at : get_or keys' line no_key ≡ n.key) (within : line < length keys') (states1 : List State)
    (states_are : states1 ≡ (if length states == line then states ++ blank n.class ∷ [] else states)) where
  abbrev ns' : List Nomination
  ns' = ns ++ n ∷ []

  pub keyed_then : keys' ≡ lines_of ns'
  keyed_then = entered_is ∙ ap (λ l. entered l n.key) kept.keyed ∙ sym (pushed.lines_push ns n)

  absent_too : list_any (same_key n.key) keys ≡ false → list_any (same_key n.key) (lines_of ns) ≡ false
  absent_too e = subst (λ l. list_any (same_key n.key) l ≡ false) kept.keyed e

  told_entered : EachLine (TellsNominated ns) keys' states1
  told_entered =
      entry.each_then ns keys states n line keys' states1 kept.sized entered_is at within states_are (TellsNominated ns) kept.told
      (λ e c low high. zeros 5 (c - 1) ∙ sym (pushed.unknown_nominated n.key ns c (absent_too e)))

  class_stays : (key : Key) (class : ℕ) → IsFirstClass class (of_line key ns) → IsFirstClass class (of_line key ns')
  class_stays key class h = subst (IsFirstClass class) (sym (filter-append (λ m. same_key key m.key) ns (n ∷ []))) (pushed.first_stays class (of_line key ns) _ h)

  class_new : list_any (same_key n.key) keys ≡ false → IsFirstClass n.class (of_line n.key ns')
  class_new e = subst (IsFirstClass n.class) (sym (pushed.of_line_yes n.key ns n (key_self n.key) ∙ ap (λ l. l ++ n ∷ []) (pushed.unknown n.key ns (absent_too e)))) refl

  classed_entered : EachLine (TellsClass ns') keys' states1
  classed_entered =
      entry.each_then ns keys states n line keys' states1 kept.sized entered_is at within states_are (TellsClass ns') (λ i lt. class_stays (get_or keys i no_key) (get_or states i no_state).class (kept.classed i lt)) class_new

  other_line : (i : ℕ) → i < length keys' → i ≢ line → same_key (get_or keys' i no_key) n.key ≡ false
  other_line i lt ne = subst (λ k. same_key (get_or keys' i no_key) k ≡ false) at (apart keys' i line distinct lt within ne)

  module _ (states' : List State) (others : (i : ℕ) → i ≢ line → get_or states' i no_state ≡ get_or states1 i no_state) (class : (get_or states' line no_state).class ≡ (get_or states1 line no_state).class)
      (quantities : (c : ℕ) → 1 ≤ c → c ≤ 5 → get_or (get_or states' line no_state).nominated (c - 1) 0 ≡ (if nat_le n.cycle c then n.quantity else get_or (get_or states1 line no_state).nominated (c - 1) 0)) where
    here : (c : ℕ) → 1 ≤ c → c ≤ 5 → get_or (get_or states' line no_state).nominated (c - 1) 0 ≡ nominated ns' n.key c
    here c low high = quantities c low high ∙ go (nat_le n.cycle c) refl
      where
        go : (v : Bool) → nat_le n.cycle c ≡ v → (if v then n.quantity else get_or (get_or states1 line no_state).nominated (c - 1) 0) ≡ nominated ns' n.key c
        go true e = sym (pushed.nominated_now n.key ns n c (key_self n.key) e)
        go false e = told_entered line within c low high ∙ ap (λ k. nominated ns k c) at ∙ sym (pushed.nominated_before n.key ns n c (key_self n.key) e)

    pub told_then : EachLine (TellsNominated ns') keys' states'
    told_then =
        each_one (TellsNominated ns) (TellsNominated ns') keys' states1 states' line told_entered others
        (λ i state lt ne h c low high. h c low high ∙ sym (pushed.nominated_other (get_or keys' i no_key) ns n c (other_line i lt ne)))
        (λ c low high. here c low high ∙ ap (λ k. nominated ns' k c) (sym at))

    pub classed_then : EachLine (TellsClass ns') keys' states'
    classed_then =
        each_one (TellsClass ns') (TellsClass ns') keys' states1 states' line classed_entered others (λ i state lt ne h. h)
        (subst (λ x. IsFirstClass x (of_line (get_or keys' line no_key) ns')) (sym class) (classed_entered line within))

  sum_changes : (contract : List ℕ) → committed ns' contract + cond (same_name n.key.contract contract) (last_quantity (of_line n.key ns)) 0 ≡ committed ns contract + cond (same_name n.key.contract contract) n.quantity 0
  sum_changes contract =
      let p : Key → Bool = λ key. same_name key.contract contract in
      let f : Key → ℕ = λ key. last_quantity (of_line key ns) in
      let g : Key → ℕ = λ key. last_quantity (of_line key ns') in
      let agree : (y : Key) → same_key n.key y ≡ false → f y ≡ g y = λ y e. sym (ap last_quantity (pushed.of_line_no y ns n (key_other n.key y e))) in
      let there = entry.there ns keys states n line keys' states1 kept.sized entered_is at within states_are in
      let change = total_changed p f g n.key agree keys' distinct there in
      let last : g n.key ≡ n.quantity = ap last_quantity (pushed.of_line_yes n.key ns n (key_self n.key)) ∙ pushed.last_push (of_line n.key ns) n in
      let own : part p g n.key ≡ cond (same_name n.key.contract contract) n.quantity 0 = ap (λ q. cond (same_name n.key.contract contract) q 0) last in
      let new : committed ns' contract ≡ total p g keys' = ap (total p g) (sym keyed_then) in
      let old : total p f keys' ≡ committed ns contract =
      ap (total p f) entered_is ∙ total_entered p f keys n.key (λ e. ap last_quantity (pushed.unknown n.key ns (absent_too e))) ∙ ap (total p f) kept.keyed in
      omega (arith, change, own, new, old)

  -- lines are entered last, so those of each cycle stay first
  until_now : All (λ m. m.cycle ≤ n.cycle) ns → (c : ℕ) → n.cycle ≤ c → until c ns' ≡ ns'
  until_now later c le = until_late ns' c (All-push (λ m. m.cycle ≤ c) ns n (λ k d lt. let early = later k d lt in omega (arith, early, le)) le)

  pub counted_then : All (λ m. m.cycle ≤ n.cycle) ns → (counts' : List ℕ) → ((c : ℕ) → 1 ≤ c → c ≤ 5 → get_or counts' (c - 1) 0 ≡ (if nat_le n.cycle c then length keys' else get_or counts (c - 1) 0)) → Counts ns' keys' counts'
  counted_then later counts' h c low high = subst (λ m. (m ≤ length keys') × (lines_until ns' c ≡ take m keys')) (sym (h c low high)) (go (leb_tells n.cycle c))
    where
      go : ((leb n.cycle c ≡ true) × (n.cycle ≤ c)) ⊎ ((leb n.cycle c ≡ false) × (c < n.cycle))
          → let m : ℕ = if nat_le n.cycle c then length keys' else get_or counts (c - 1) 0 in (m ≤ length keys') × (lines_until ns' c ≡ take m keys')
      go (inl e) =
          let m : (if nat_le n.cycle c then length keys' else get_or counts (c - 1) 0) ≡ length keys' = ap (λ b. if b then length keys' else get_or counts (c - 1) 0) e.0 in
          subst (λ m. (m ≤ length keys') × (lines_until ns' c ≡ take m keys')) (sym m) (omega arith, ap lines_of (until_now later c e.1) ∙ sym keyed_then ∙ sym (take-length keys'))
      go (inr e) =
          let m : (if nat_le n.cycle c then length keys' else get_or counts (c - 1) 0) ≡ get_or counts (c - 1) 0 = ap (λ b. if b then length keys' else get_or counts (c - 1) 0) e.0 in
          let before = kept.counted c low high in
          let longer = entry.longer ns keys states n line keys' states1 kept.sized entered_is at within states_are in
          subst (λ m. (m ≤ length keys') × (lines_until ns' c ≡ take m keys')) (sym m) (
            omega (arith, before.0, longer),
            ap lines_of (pushed.filter_no (λ m. nat_le m.cycle c) ns n e.0) ∙ before.1 ∙ sym (entry.take_stays ns keys states n line keys' states1 kept.sized entered_is at within states_are (get_or counts (c - 1) 0) before.0),
          )

  -- the sum of one contract
  module _ (former : ℕ) (former_is : former ≡ get_or (get_or states1 line no_state).nominated 4 0) where
    pub former_last : former ≡ nominated ns n.key 5
    former_last = former_is ∙ told_entered line within 5 (omega arith) (omega arith) ∙ ap (λ k. nominated ns k 5) at

    module _ (sum' : List ℕ → ℕ) (changed : (other : List ℕ) → sum' other ≡ (if same_name n.key.contract other then sum_of n.key.contract - former + n.quantity else sum_of other)) where
      pub summed_then : (contract : List ℕ) → sum' contract ≡ committed ns' contract
      summed_then contract = changed contract ∙ go (same_name n.key.contract contract) refl (sum_changes contract)
        where
          go : (v : Bool) → same_name n.key.contract contract ≡ v
              → committed ns' contract + cond (same_name n.key.contract contract) (last_quantity (of_line n.key ns)) 0 ≡ committed ns contract + cond (same_name n.key.contract contract) n.quantity 0
              → (if v then sum_of n.key.contract - former + n.quantity else sum_of contract) ≡ committed ns' contract
          go true e change =
              let own : committed ns n.key.contract ≡ committed ns contract = ap (committed ns) (name_is n.key.contract contract e) in
              let sum = kept.summed n.key.contract in
              let last = former_last ∙ last_nominated ns n.key kept.bounded in
              let enough = last_within ns keys kept.bounded kept.keyed n.key kept.distinct in
              let whole = former_last in
              let step : committed ns' contract + last_quantity (of_line n.key ns) ≡ committed ns contract + n.quantity = rw e at change in
              omega (arith, own, sum, last, enough, whole, step)
          go false e change =
              let sum = kept.summed contract in
              let step : committed ns' contract + 0 ≡ committed ns contract + 0 = rw e at change in
              omega (arith, sum, step)

      -- all of it together
      pub kept_then : All (λ m. m.cycle ≤ n.cycle) ns → IsBounded n → length keys' ≤ 20000 → (a : Accepted) → a.line ≡ line
          → (counts' : List ℕ) → ((c : ℕ) → 1 ≤ c → c ≤ 5 → get_or counts' (c - 1) 0 ≡ (if nat_le n.cycle c then length keys' else get_or counts (c - 1) 0))
          → (states' : List State) → length states' ≡ length states1 → ((i : ℕ) → i ≢ line → get_or states' i no_state ≡ get_or states1 i no_state) → (get_or states' line no_state).class ≡ (get_or states1 line no_state).class
          → ((c : ℕ) → 1 ≤ c → c ≤ 5 → get_or (get_or states' line no_state).nominated (c - 1) 0 ≡ (if nat_le n.cycle c then n.quantity else get_or (get_or states1 line no_state).nominated (c - 1) 0))
          → AreKept ns' keys' states' (accepted ++ a ∷ []) sum' counts'
      kept_then later bounds few a a_is counts' count states' sized others class quantities =
          let longer = entry.longer ns keys states n line keys' states1 kept.sized entered_is at within states_are in
          record {
            keyed = keyed_then;
            distinct = distinct;
            few = few;
            sized = sized ∙ entry.sized_then ns keys states n line keys' states1 kept.sized entered_is at within states_are;
            within = All-push (λ a. a.line < length keys') accepted a (λ k d lt. let old = kept.within k d lt in omega (arith, old, longer)) (omega (arith, a_is, within));
            bounded = All-push IsBounded ns n kept.bounded bounds;
            told = told_then states' others class quantities;
            classed = classed_then states' others class quantities;
            summed = summed_then;
            counted = counted_then later counts' count;
            rising = all_pairs_push (λ former later. former.cycle ≤ later.cycle) ns n kept.rising (λ k d lt. later k d lt);
          }

  -- the nominations keep their keys
  pub listed : (a : Accepted) → nomination_of keys' a ≡ n → map (nomination_of keys') (accepted ++ a ∷ []) ≡ map (nomination_of keys) accepted ++ n ∷ []
  listed a is =
      map-append (nomination_of keys') accepted (a ∷ [])
      ∙ ap (λ l. l ++ nomination_of keys' a ∷ [])
      (pushed.map_same (nomination_of keys') (nomination_of keys) accepted
      (λ k d lt. ap (λ key. record { key = key; cycle = (get_or accepted k d).cycle; class = (get_or accepted k d).class; quantity = (get_or accepted k d).quantity })
      (entry.keys_stay ns keys states n line keys' states1 kept.sized entered_is at within states_are (get_or accepted k d).line (kept.within k d lt))))
      ∙ ap (λ m. map (nomination_of keys) accepted ++ m ∷ []) is
