-- What a nomination, a response, a capacity and a publish are refused for.
use Rattle.std.proofs.Common.{◌≡◌, ℕ, List, [], ◌∷◌, Ok, Err, refl}
use Rattle.std.specs.Prelude.{codes}
use Rattle.gd_tree.specs.Walk.{walk}
use Rattle.gd_rules.specs.GasDay.{place}
use Rattle.gd_units.specs.declared.service.End.TheVariants.{Origin, Dest}
use Rattle.gd_system.specs.declared.RouteFault.TheVariants.{UnknownEnd, WrongEnd}
use Rattle.gd_machine.specs.declared.event.Event.{Event}
use Rattle.gd_machine.specs.declared.event.Event.TheVariants.{Nominate, Respond, PostCapacity, Freeze}
use Rattle.gd_machine.specs.declared.reply.Reply.TheVariants.{Accepted, Done, Frozen, Published}
use Rattle.gd_machine.specs.declared.refusal.Refusal.TheVariants.{UnknownContract, NotShipper, Route, OverContract, NotOperator, UnknownElement, Frozen as IsFrozen, NotFrozen, StaleRound, OtherQuestion}
use Rattle.gd_machine.specs.Day.{Day}
use Rattle.gd_machine.proofs.Script.{answers, day_with, firm_contract, interruptible_contract, firm, interruptible, ship, opr, opd, r1, d1, line, asked, publish}

abbrev day : Day
day = day_with (firm_contract ∷ interruptible_contract ∷ []) []

abbrev in_package : List ℕ → ℕ → Event
in_package name quantity = Nominate 1772910000 ship (record firm { «package» = name }) quantity

-- a contract of 100: lines of 60, then 41 and 40; the first line again with 50, a third of 10, a fourth of 1 and of 0
contract_quantity : answers day [] (in_package (codes "P") 60 ∷ in_package (codes "Q") 41 ∷ in_package (codes "Q") 40 ∷ in_package (codes "P") 50 ∷ in_package (codes "R") 10 ∷ in_package (codes "S") 1 ∷ in_package (codes "S") 0 ∷ [])
    ≡ Ok (Accepted 1 1 0) ∷ Err OverContract ∷ Ok (Accepted 2 1 1) ∷ Ok (Accepted 3 1 0) ∷ Ok (Accepted 4 1 2) ∷ Err OverContract ∷ Ok (Accepted 5 1 3) ∷ []
unfolding walk place
contract_quantity = refl

abbrev between : List ℕ → List ℕ → ℕ → Event
between origin dest quantity = Nominate 1772910000 ship (record firm { origin = origin; dest = dest }) quantity

-- the first refusal is told: each of these events has too great a quantity too
nominations : answers day [] (Nominate 1772910000 opr (record firm { contract = codes "NONE" }) 101 ∷ Nominate 1772910000 opr (record firm { origin = codes "X" }) 101 ∷ between (codes "S1") d1 101 ∷ between d1 r1 101 ∷ between r1 r1 101 ∷ between r1 d1 101 ∷ [])
    ≡ Err UnknownContract ∷ Err NotShipper ∷ Err (Route UnknownEnd) ∷ Err (Route WrongEnd) ∷ Err (Route WrongEnd) ∷ Err OverContract ∷ []
unfolding walk place
nominations = refl

-- a moment before the last one counts for the last one: the second nomination is for Evening. While Timely is frozen a third one is, too.
stamps : answers day [] (Nominate 1772910901 ship interruptible 70 ∷ Nominate 1772910000 ship firm 20 ∷ Freeze 1772922600 ∷ Nominate 1772910000 ship firm 30 ∷ Respond 1772922600 opr 0 Origin 70 ∷ PostCapacity 1772922600 (record { 0 = 0 }) 60 ∷ Freeze 1772922600 ∷ publish 1772922600 (asked 100 1 1 []) [] ∷ [])
    ≡ Ok (Accepted 1 2 0) ∷ Ok (Accepted 2 2 1) ∷ Ok (Frozen 3 1 1 0) ∷ Ok (Accepted 4 2 1) ∷ Err IsFrozen ∷ Err IsFrozen ∷ Err IsFrozen ∷ Ok (Published 5 1 1 []) ∷ []
unfolding walk place
stamps = refl

-- the other end's operator; elements that are not there; the last response counts
others : answers day [] (Nominate 1772910000 ship interruptible 70 ∷ Respond 1772910000 opd 0 Origin 70 ∷ Respond 1772910000 opr 0 Origin 70 ∷ Respond 1772910000 opr 0 Origin 60 ∷ Respond 1772910000 opd 0 Dest 70 ∷ PostCapacity 1772910000 (record { 0 = 3 }) 60 ∷ PostCapacity 1772910000 (record { 0 = 0 }) 60 ∷ PostCapacity 1772910000 (record { 0 = 0 }) 80 ∷ Freeze 1772922600 ∷ publish 1772922600 (asked 80 1 1 (line 4 0 60 ∷ [])) (60 ∷ []) ∷ [])
    ≡ Ok (Accepted 1 1 0) ∷ Err NotOperator ∷ Ok (Done 2) ∷ Ok (Done 3) ∷ Ok (Done 4) ∷ Err UnknownElement ∷ Ok (Done 5) ∷ Ok (Done 6) ∷ Ok (Frozen 7 1 1 1) ∷ Ok (Published 8 1 1 []) ∷ []
unfolding walk place
others = refl

-- a certificate for another book, another capacity and another ceiling; the right one is taken once, and is stale in the next round
certificates : answers day [] (Nominate 1772910000 ship interruptible 70 ∷ Respond 1772910000 opr 0 Origin 70 ∷ Respond 1772910000 opd 0 Dest 70 ∷ publish 1772922600 (asked 100 1 1 (line 4 0 70 ∷ [])) (70 ∷ []) ∷ Freeze 1772922600
    ∷ publish 1772922600 (record (asked 100 1 1 (line 4 0 70 ∷ [])) { book = codes "OTHER" }) (70 ∷ []) ∷ publish 1772922600 (asked 90 1 1 (line 4 0 70 ∷ [])) (70 ∷ []) ∷ publish 1772922600 (asked 100 1 1 (line 4 0 60 ∷ [])) (60 ∷ [])
    ∷ publish 1772922600 (asked 100 1 1 (line 4 0 70 ∷ [])) (70 ∷ []) ∷ publish 1772922600 (asked 100 1 1 (line 4 0 70 ∷ [])) (70 ∷ []) ∷ Freeze 1772937000 ∷ publish 1772937000 (asked 100 1 1 (line 4 0 70 ∷ [])) (70 ∷ []) ∷ [])
    ≡ Ok (Accepted 1 1 0) ∷ Ok (Done 2) ∷ Ok (Done 3) ∷ Err NotFrozen ∷ Ok (Frozen 4 1 1 1)
    ∷ Err OtherQuestion ∷ Err OtherQuestion ∷ Err OtherQuestion
    ∷ Ok (Published 5 1 1 []) ∷ Err NotFrozen ∷ Ok (Frozen 6 2 2 1) ∷ Err (StaleRound 2) ∷ []
unfolding walk place
certificates = refl
