-- What is kept of the accepted nominations, so that no call has to go through them all.
use Rattle.std.specs.Prelude.{◌≡◌, ℕ, ◌-◌, ◌<◌, ◌≤◌, List, [], ◌∷◌, length, take, get_or, replicate, All}
use Rattle.std.specs.List.{IsDistinct}
use Rattle.gd_rules.specs.Lines.{Key, Nomination, no_key, same_key, lines_of, of_line, committed}
use Rattle.gd_rules.specs.Lists.{nominated, lines_until, IsRising}
use Rattle.gd_rules.specs.Limits.{cycles, most_dekatherms, most_lines}
use Rattle.gd_lines.specs.declared.state.State.{State}
use Rattle.gd_lines.specs.declared.state.Accepted.{Accepted}

abbrev pub nomination_of : List Key → Accepted → Nomination
nomination_of keys a = record { key = get_or keys a.line no_key; cycle = a.cycle; class = a.class; quantity = a.quantity }

abbrev pub no_state : State
no_state = record { class = 0; nominated = [] }

-- The state of a line of this class with no nomination.
abbrev pub blank : ℕ → State
blank class = record { class = class; nominated = replicate cycles 0 }

-- The class is that of the first of these nominations.
abbrev pub IsFirstClass : ℕ → List Nomination → Type 0
IsFirstClass class [] = ⊥
IsFirstClass class (n ∷ ns) = class ≡ n.class

-- The state tells what is nominated on the line, for each cycle.
abbrev pub TellsNominated : List Nomination → Key → State → Type 0
TellsNominated ns key state = (c : ℕ) → 1 ≤ c → c ≤ cycles → get_or state.nominated (c - 1) 0 ≡ nominated ns key c

abbrev pub TellsClass : List Nomination → Key → State → Type 0
TellsClass ns key state = IsFirstClass state.class (of_line key ns)

-- It holds of each line's key and state.
abbrev pub EachLine : (Key → State → Type 0) → List Key → List State → Type 0
EachLine Holds keys states = (i : ℕ) → i < length keys → Holds (get_or keys i no_key) (get_or states i no_state)

-- How many lines are nominated until each cycle: they come first.
abbrev pub Counts : List Nomination → List Key → List ℕ → Type 0
Counts ns keys counts = (c : ℕ) → 1 ≤ c → c ≤ cycles → (get_or counts (c - 1) 0 ≤ length keys) × (lines_until ns c ≡ take (get_or counts (c - 1) 0) keys)

abbrev pub IsBounded : Nomination → Type 0
IsBounded n = (n.cycle ≤ cycles) × (n.quantity ≤ most_dekatherms)

-- The keys by number, a state for each, the nominations with their lines' numbers, the sum of each contract's last quantities, and how many lines there are until each cycle.
pub record AreKept (ns : List Nomination) (keys : List Key) (states : List State) (accepted : List Accepted) (sum_of : List ℕ → ℕ) (counts : List ℕ) : Type 0 where
  pub keyed : keys ≡ lines_of ns
  pub distinct : IsDistinct same_key keys
  pub few : length keys ≤ most_lines
  pub sized : length states ≡ length keys
  pub within : All (λ a. a.line < length keys) accepted
  pub bounded : All IsBounded ns
  pub told : EachLine (TellsNominated ns) keys states
  pub classed : EachLine (TellsClass ns) keys states
  pub summed : (contract : List ℕ) → sum_of contract ≡ committed ns contract
  pub counted : Counts ns keys counts
  pub rising : IsRising ns
