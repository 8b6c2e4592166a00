-- A pool P1 at B and a pool P2 at A: what is refused of pools, and a line into one and a line out of it.
use Rattle.std.proofs.Common.{◌≡◌, ℕ, List, [], ◌∷◌, Ok, Err, refl}
use Rattle.std.specs.Prelude.{codes}
use Rattle.gd_tree.specs.Walk.{walk}
use Rattle.gd_rules.specs.GasDay.{place}
use Rattle.gd_units.specs.declared.service.End.TheVariants.{Origin, Dest}
use Rattle.gd_system.specs.Pipeline.{Pipeline}
use Rattle.gd_system.specs.declared.RouteFault.TheVariants.{WrongEnd, SameEnd, NoRoute}
use Rattle.gd_machine.specs.declared.event.Event.{Event}
use Rattle.gd_machine.specs.declared.event.Event.TheVariants.{Nominate, Respond, PostCapacity, Freeze}
use Rattle.gd_machine.specs.declared.reply.Reply.TheVariants.{Accepted, Done, Frozen}
use Rattle.gd_machine.specs.declared.refusal.Refusal.TheVariants.{Route, UnknownElement, IsPool, NotOperator}
use Rattle.gd_machine.specs.Day.{Day}
use Rattle.gd_machine.proofs.Script.{answers, day_with, base, firm_contract, firm, ship, opd, r1, d1}

abbrev p1 : List ℕ
p1 = codes "P1"

abbrev p2 : List ℕ
p2 = codes "P2"

abbrev opp : List ℕ
opp = codes "OPP"

abbrev pooled : Pipeline
pooled = record base { pools = (p1, record { place = record { 0 = 1 }; operator = opp }) ∷ (p2, record { place = record { 0 = 0 }; operator = opp }) ∷ [] }

abbrev day : Day
day = record (day_with [] []) { holdings = record { pipeline = pooled; contracts = firm_contract ∷ [] } }

abbrev between : List ℕ → List ℕ → Event
between origin dest = Nominate 1772910000 ship (record firm { origin = origin; dest = dest }) 40

run : answers day [] (between p1 p1 ∷ between p1 p2 ∷ between p1 r1 ∷ between r1 p1 ∷ between p1 d1
    ∷ PostCapacity 1772910000 (record { 0 = 3 }) 60 ∷ PostCapacity 1772910000 (record { 0 = 5 }) 60
    ∷ Respond 1772910000 opd 0 Dest 40 ∷ Respond 1772910000 opp 0 Dest 40 ∷ Respond 1772910000 opp 1 Origin 40 ∷ Respond 1772910000 opp 1 Dest 40 ∷ Freeze 1772922600 ∷ [])
    ≡ Err (Route SameEnd) ∷ Err (Route NoRoute) ∷ Err (Route WrongEnd) ∷ Ok (Accepted 1 1 0) ∷ Ok (Accepted 2 1 1)
    ∷ Err IsPool ∷ Err UnknownElement
    ∷ Err NotOperator ∷ Ok (Done 3) ∷ Ok (Done 4) ∷ Err NotOperator ∷ Ok (Frozen 5 1 1 2) ∷ []
unfolding walk place
run = refl
