-- What is held of the slots of an office.
use Rattle.std.specs.Prelude.{◌≡◌, ℕ, ◌+◌, ◌<◌, ◌==◌, if◌then◌else◌, List, [], ◌∷◌, ◌++◌, length, map, get_or, Option, Some, None}
use Rattle.std.specs.Global.{Vec}
use Rattle.gd_machine.specs.Day.{Day}
use Rattle.gd_office_part.specs.declared.kept.Receipt.{Receipt}
use Rattle.gd_office_part.specs.declared.numbers.Numbers.{Numbers}
use Rattle.gd_office_part.specs.declared.threads.Phase.{Phase}
use Rattle.gd_office_part.specs.declared.threads.SessionRows.{SessionRows}
use Rattle.gd_office_part.specs.Sending.{lists_of}
use Rattle.gd_office_run.specs.declared.end.End.{End}
use Rattle.gd_office_run.specs.declared.holding.Holding.{Holding}
use Rattle.gd_office_run.specs.Picking.{pick}
use Rattle.gd_office_run.specs.Ends.{EndsWith}

-- What is held of a slot: what each of its sessions counted, its receipts and its number, and the receipts of the desk.
pub record Share : Type 0 where
  pub counts : List Numbers
  pub lists : List (List Receipt)
  pub numbers : List ℕ
  pub desk : List Receipt

abbrev pub nothing : Share
nothing = record { counts = []; lists = []; numbers = []; desk = [] }

abbrev pub plus : Share → Share → Share
plus a b = record { counts = a.counts ++ b.counts; lists = a.lists ++ b.lists; numbers = a.numbers ++ b.numbers; desk = a.desk ++ b.desk }

-- The items of slot k.
abbrev pub items_at : {X : Type 0} → List (Vec X) → ℕ → List X
items_at holding k = get_or (map (λ v. v.items) holding) k []

abbrev pub share_at : {J : Type 0} → Holding J → ℕ → Share
share_at holding k = record {
  counts = map (λ s. s.numbers) (items_at holding.sessions.items k);
  lists = lists_of (items_at holding.lists.items k);
  numbers = items_at holding.numbers.items k;
  desk = items_at holding.desks.items k;
}

-- It holds something of so many slots.
abbrev pub IsOf : {J : Type 0} → ℕ → Holding J → Type 0
IsOf slots holding =
    (length holding.sessions.items ≡ slots) × (length holding.lists.items ≡ slots)
    × (length holding.numbers.items ≡ slots) × (length holding.desks.items ≡ slots)

-- Each of so many slots gains a share.
abbrev pub Gains : {J : Type 0} → ℕ → Holding J → Holding J → (ℕ → Share) → Type 0
Gains slots old new more = (k : ℕ) → k < slots → share_at new k ≡ plus (share_at old k) (more k)

-- The slots of a phase's sessions, by their places.
abbrev pub slots_of : Phase → List ℕ
slots_of p = map (λ s. s.slot) p.sessions.items

-- The share of slot k in the sessions of a phase.
abbrev pub of_sessions : ℕ → List SessionRows → List Numbers → List (List Receipt) → List ℕ → Share
of_sessions k rows counts lists numbers = record { counts = pick k rows counts; lists = pick k rows lists; numbers = pick k rows numbers; desk = [] }

abbrev pub receipts_of : Receipt → Option Receipt → List Receipt
receipts_of froze None = froze ∷ []
receipts_of froze (Some closed) = froze ∷ closed ∷ []

-- The share of slot k in a desk of this slot.
abbrev pub of_desk : ℕ → ℕ → Receipt → Option Receipt → Share
of_desk slot k froze closed = record { counts = []; lists = []; numbers = []; desk = if slot == k then receipts_of froze closed else [] }

-- How the slot of this number, from 1, ends with its share.
abbrev pub EndsBy : List Day → ℕ → Share → End → Type 0
EndsBy days slot share e = EndsWith days slot share.desk share.lists share.numbers share.counts e

-- The slots from place n on end by their shares.
abbrev pub EndFrom : List Day → (ℕ → Share) → ℕ → List End → Type 0
EndFrom days share n [] = Unit {0}
EndFrom days share n (e ∷ ends) = EndsBy days (n + 1) (share n) e × EndFrom days share (n + 1) ends
