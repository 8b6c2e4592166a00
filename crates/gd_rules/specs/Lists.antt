-- What else a list of accepted nominations tells.
use Rattle.std.specs.Prelude.{ℕ, ◌≤◌, List, [], ◌∷◌, map, AllPairs, Option}
use Rattle.gd_rules.specs.Lines.{Key, Nomination, lines_of, find, of_line, until, last_quantity, intake}

-- What is nominated on a line for a cycle: the last quantity accepted for it or for a former cycle, else 0.
abbrev pub nominated : List Nomination → Key → ℕ → ℕ
nominated ns key cycle = last_quantity (until cycle (of_line key ns))

-- The same by number: each nomination's line and quantity.
abbrev pub numbered_intake : List Nomination → ℕ → List (Option ℕ × ℕ)
numbered_intake ns cycle = map (λ n. (find ns n.key, n.quantity)) (intake ns cycle)

-- The lines that are nominated for this cycle or for a former one.
abbrev pub lines_until : List Nomination → ℕ → List Key
lines_until ns cycle = lines_of (until cycle ns)

-- A line's class is that of its first nomination. Since it goes by contract and ends, all of them have it.
abbrev pub first_class : List Nomination → ℕ
first_class [] = 0
first_class (n ∷ ns) = n.class

abbrev pub class_of_line : List Nomination → Key → ℕ
class_of_line ns key = first_class (of_line key ns)

-- Nominations are accepted as time goes on: their cycles never fall.
abbrev pub IsRising : List Nomination → Type 0
IsRising ns = AllPairs (λ former later. former.cycle ≤ later.cycle) ns
