-- What is held by slot, whose places count from 0.
use Rattle.std.specs.Prelude.{◌≡◌, ℕ, ◌<◌, ◌==◌, if◌then◌else◌, List, [], ◌∷◌, ◌++◌, length, get_or}
use Rattle.std.specs.Global.{Vec}
use Rattle.gd_office_part.specs.declared.threads.SessionRows.{SessionRows}

-- An item, for the slot at this place alone.
abbrev pub if_slot : {X : Type 0} → ℕ → ℕ → X → List X
if_slot slot k item = if slot == k then item ∷ [] else []

-- The items of the sessions of slot k, where there is one of each session.
abbrev pub pick : {X : Type 0} → ℕ → List SessionRows → List X → List X
pick k [] items = []
pick k (r ∷ rows) [] = []
pick k (r ∷ rows) (x ∷ items) = if_slot r.slot k x ++ pick k rows items

-- Each slot has its items, and more behind them.
abbrev pub Grew : {X : Type 0} → List (Vec X) → List (Vec X) → (ℕ → List X) → Type 0
Grew {X} old new more =
    (length new ≡ length old) × ((k : ℕ) (d : Vec X) → k < length old → (get_or new k d).items ≡ (get_or old k d).items ++ more k)

-- No slot has an item.
abbrev pub AreEmpty : {X : Type 0} → List (Vec X) → Type 0
AreEmpty {X} holding = (k : ℕ) (d : Vec X) → k < length holding → (get_or holding k d).items ≡ []
