-- What `accept` does, step by step.
use Rattle.std.proofs.Common.{◌≡◌, ℕ, ◌+◌, ◌<◌, ◌≤◌, Bool, true, false, not, cond, List, [], ◌∷◌, ◌++◌, length, get_or, map, refl, sym, ap, ◌∙◌, subst, arith, length-append, Option, Some, None, Ok, Err, Result, inl, inr, filter, ◌≢◌}
use Rattle.std.specs.Prelude.{◌==◌, ◌⊎◌, nat_le, nat_lt, if◌then◌else◌, All, IfOk, position}
use Rattle.std.specs.List.{IsDistinct, list_any, position_or_len}
use Rattle.std.proofs.lemmas.Bool.{false≢true}
use Rattle.std.proofs.lemmas.Bool.Decides.{leb_tells, nat_tests}
use Rattle.std.proofs.lemmas.List.Folds.{list_any_at}
use Rattle.std.proofs.lemmas.List.Sums.{prefix_len-le-length, passes_at_first, position_or_len_is}
use borrow.Author.Tests.{ltb-true, lt-ltb}
use Rattle.gd_rules.specs.Lines.{Key, Nomination, no_key, same_key, entered, lines_of, find}
use Rattle.gd_lines.specs.Kept.{nomination_of, blank}
use Rattle.gd_lines.specs.Numbering.{number_within, numbered}
use Rattle.gd_lines.specs.declared.fault.LinesFault.{LinesFault}
use Rattle.gd_lines.specs.declared.fault.LinesFault.TheVariants.{TooManyLines}
use Rattle.gd_lines.specs.declared.state.State.{State}
use Rattle.gd_lines.specs.declared.state.Accepted.{Accepted}
use Rattle.gd_lines.proofs.Same.{key_self}
use Rattle.gd_lines.proofs.NextNomination.{tail}
use Rattle.gd_lines.proofs.Lockstep.{apart}

-- ---- numbers
line_at : (count p : ℕ) (b : Bool) (line : ℕ) → (b ≡ false → count ≡ p) → number_within count (cond b (Some p) None) ≡ Ok line → line ≡ p
line_at count p true line same e = cc
line_at count p false line same e = go (nat_le 20000 count) e
  where
    go : (full : Bool) → (let faulty : Result ℕ LinesFault = Err TooManyLines in cond full faulty (Ok count)) ≡ Ok line → line ≡ p
    go true e = cc
    go false e = let here = same refl in cc

pub line_is : (ns : List Nomination) (key : Key) (line : ℕ) → numbered ns key ≡ Ok line → line ≡ position_or_len (same_key key) (lines_of ns)
line_is ns key line e =
    let n : ℕ = position_or_len (same_key key) (lines_of ns) in
    line_at (length (lines_of ns)) n (nat_lt n (length (lines_of ns))) line
    (λ behind. let most = prefix_len-le-length (λ x. not (same_key key x)) (lines_of ns) in grind (arith, nat_tests, behind, most)) e

longer_by_one : (key : Key) (keys : List Key) → length (entered keys key) ≤ length keys + 1
longer_by_one key keys = go (list_any (same_key key) keys)
  where
    go : (v : Bool) → length (if v then keys else keys ++ key ∷ []) ≤ length keys + 1
    go true = omega arith
    go false = let long = length-append keys (key ∷ []) in omega (arith, long)

known_by : (key : Key) (keys : List Key) → position_or_len (same_key key) keys < length keys → entered keys key ≡ keys
known_by key keys lt = ap (λ b. if b then keys else keys ++ key ∷ []) (list_any_at (same_key key) keys (position_or_len (same_key key) keys) no_key lt (passes_at_first (same_key key) keys no_key lt))

-- a nomination that passes leaves at most 20,000 lines
pub few_then : (ns : List Nomination) (key : Key) (line : ℕ) → numbered ns key ≡ Ok line → length (lines_of ns) ≤ 20000 → length (entered (lines_of ns) key) ≤ 20000
few_then ns key line e few = go (nat_lt (position_or_len (same_key key) (lines_of ns)) (length (lines_of ns))) refl e
  where
    room : (full : Bool) → nat_le 20000 (length (lines_of ns)) ≡ full → (let faulty : Result ℕ LinesFault = Err TooManyLines in cond full faulty (Ok (length (lines_of ns)))) ≡ Ok line → length (lines_of ns) < 20000
    room true f e = cc
    room false f e = by (leb_tells 20000 (length (lines_of ns)))
      where
        by : ((nat_le 20000 (length (lines_of ns)) ≡ true) × (20000 ≤ length (lines_of ns))) ⊎ ((nat_le 20000 (length (lines_of ns)) ≡ false) × (length (lines_of ns) < 20000)) → length (lines_of ns) < 20000
        by (inl h) = absurd (false≢true (sym f ∙ h.0))
        by (inr h) = h.1

    go : (b : Bool) → nat_lt (position_or_len (same_key key) (lines_of ns)) (length (lines_of ns)) ≡ b → number_within (length (lines_of ns)) (cond b (Some (position_or_len (same_key key) (lines_of ns))) None) ≡ Ok line → length (entered (lines_of ns) key) ≤ 20000
    go true b e = let same = ap length (known_by key (lines_of ns) (ltb-true _ _ b)) in omega (arith, same, few)
    go false b e =
        let more = room (nat_le 20000 (length (lines_of ns))) refl e in
        let long = longer_by_one key (lines_of ns) in
        omega (arith, more, long)

-- a line's own key finds it
pub found_at : (keys : List Key) (i : ℕ) (key : Key) → IsDistinct same_key keys → i < length keys → get_or keys i no_key ≡ key → position (same_key key) keys ≡ Some i
found_at keys i key h lt at =
    let here : position_or_len (same_key key) keys ≡ i =
    position_or_len_is (same_key key) keys i no_key (omega arith)
    (λ k before. subst (λ x. same_key x (get_or keys k no_key) ≡ false) at (apart keys i k h lt (omega (arith, before, lt)) (let ne : i ≢ k = omega (arith, before) in ne)))
    (λ _. ap (same_key key) at ∙ key_self key) in
    ap (λ n. cond (nat_lt n (length keys)) (Some n) None) here ∙ ap (λ b. cond b (Some i) None) (lt-ltb i (length keys) lt)

-- the nominations for one cycle, by number
abbrev pub row_of : Accepted → ℕ × ℕ
row_of a = (a.line, a.quantity)

abbrev pub numbered_row : ℕ × ℕ → Option ℕ × ℕ
numbered_row e = (Some e.0, e.1)

abbrev pub found_row : List Nomination → Nomination → Option ℕ × ℕ
found_row ns n = (find ns n.key, n.quantity)

pub taken : (ns : List Nomination) (keys : List Key) (accepted : List Accepted) (cycle : ℕ) → keys ≡ lines_of ns → IsDistinct same_key keys → All (λ a. a.line < length keys) accepted
    → map numbered_row (map row_of (filter (λ a. a.cycle == cycle) accepted)) ≡ map (found_row ns) (filter (λ n. n.cycle == cycle) (map (nomination_of keys) accepted))
taken ns keys [] cycle keyed distinct within = refl
taken ns keys (a ∷ accepted) cycle keyed distinct within = go (a.cycle == cycle) (taken ns keys accepted cycle keyed distinct (tail (λ a. a.line < length keys) a accepted within))
  where
    head : found_row ns (nomination_of keys a) ≡ numbered_row (row_of a)
    head =
        ap (λ (f : Option ℕ). let row : Option ℕ × ℕ = (f, a.quantity) in row)
        (subst (λ l. position (same_key (get_or keys a.line no_key)) l ≡ Some a.line) keyed (found_at keys a.line (get_or keys a.line no_key) distinct (within 0 a (omega arith)) refl))

    go : (b : Bool) → map numbered_row (map row_of (filter (λ a. a.cycle == cycle) accepted)) ≡ map (found_row ns) (filter (λ n. n.cycle == cycle) (map (nomination_of keys) accepted))
        → map numbered_row (map row_of (cond b (a ∷ filter (λ a. a.cycle == cycle) accepted) (filter (λ a. a.cycle == cycle) accepted)))
        ≡ map (found_row ns) (cond b (nomination_of keys a ∷ filter (λ n. n.cycle == cycle) (map (nomination_of keys) accepted)) (filter (λ n. n.cycle == cycle) (map (nomination_of keys) accepted)))
    go true rest = ap (λ l. numbered_row (row_of a) ∷ l) rest ∙ ap (λ r. r ∷ map (found_row ns) (filter (λ n. n.cycle == cycle) (map (nomination_of keys) accepted))) (sym head)
    go false rest = rest

pub over_ok : {X E : Type 0} (r : Result X E) (P Q : X → Type 0) → ((x : X) → P x → Q x) → IfOk r P → IfOk r Q
over_ok (Ok x) P Q f h = f x h
over_ok (Err e) P Q f h = h

-- The line of a nomination is entered.
pub record IsEntered (ns : List Nomination) (keys : List Key) (states : List State) (n : Nomination) (line : ℕ) (keys' : List Key) (states' : List State) : Type 0 where
  pub entered_is : keys' ≡ entered keys n.key
  pub distinct : IsDistinct same_key keys'
  pub at : get_or keys' line no_key ≡ n.key
  pub within : line < length keys'
  pub few : length keys' ≤ 20000
  pub states_are : states' ≡ (if length states == line then states ++ blank n.class ∷ [] else states)

-- from what the calls before tell: `numbered`, `make_room`, `enter_key` and `enter_state`
pub entered_by : (ns : List Nomination) (keys : List Key) (states : List State) (n : Nomination) (line : ℕ) (keys1 keys' : List Key) (states1 states' : List State) (number : ℕ)
    → keys ≡ lines_of ns → length keys ≤ 20000 → numbered ns n.key ≡ Ok line → keys1 ≡ keys → states1 ≡ states → keys' ≡ entered keys1 n.key → IsDistinct same_key keys' → number ≡ position_or_len (same_key n.key) keys1 → number < length keys'
    → get_or keys' number no_key ≡ n.key → states' ≡ (if length states1 == line then states1 ++ blank n.class ∷ [] else states1) → IsEntered ns keys states n line keys' states'
entered_by ns keys states n line keys1 keys' states1 states' number keyed few passes same_keys same_states entered_is distinct number_is within at states_are =
    let same : number ≡ line = number_is ∙ ap (λ l. position_or_len (same_key n.key) l) (same_keys ∙ keyed) ∙ sym (line_is ns n.key line passes) in
    record {
      entered_is = entered_is ∙ ap (λ l. entered l n.key) same_keys;
      distinct = distinct;
      at = ap (λ i. get_or keys' i no_key) (sym same) ∙ at;
      within = subst (λ i. i < length keys') same within;
      few = subst (λ l. length l ≤ 20000) (sym (entered_is ∙ ap (λ l. entered l n.key) (same_keys ∙ keyed))) (few_then ns n.key line passes (subst (λ l. length l ≤ 20000) keyed few));
      states_are = states_are ∙ ap (λ s. if length s == line then s ++ blank n.class ∷ [] else s) same_states;
    }
