-- A cut, a skip, a waiver and a stale round, event by event: the capacity of S1 falls below what is scheduled on a firm line.
use Rattle.std.proofs.Common.{◌≡◌, true, false, List, [], ◌∷◌, Ok, Err, refl}
use Rattle.gd_tree.specs.Walk.{walk}
use Rattle.gd_rules.specs.GasDay.{place}
use Rattle.gd_certificate.specs.Cutting.{Members}
use Rattle.gd_certificate.specs.declared.cut.CutFault.TheVariants.{Shape, NotCut}
use Rattle.gd_machine.specs.declared.event.Event.{Event}
use Rattle.gd_machine.specs.declared.event.Event.TheVariants.{Nominate, PostCapacity, Freeze, Declare, Waive, Skip}
use Rattle.gd_machine.specs.declared.reply.Reply.TheVariants.{Accepted, Done, Frozen, Published, Declared}
use Rattle.gd_machine.specs.declared.refusal.Refusal.TheVariants.{NotFrozen, StaleRound, NoCut, NoCutProof, UnknownLine}
use Rattle.gd_machine.specs.Day.{Day}
use Rattle.gd_machine.proofs.Script.{answers, day_with, firm_contract, firm, ship, line, asked, publish}

-- 80 is carried over from the day before
abbrev day : Day
day = day_with (firm_contract ∷ []) ((firm, 80) ∷ [])

-- A and R1
abbrev inside : Members
inside = record { places = true ∷ false ∷ []; points = true ∷ false ∷ []; pools = [] }

-- A alone, and a set with one place too many
abbrev half : Members
half = record inside { points = false ∷ false ∷ [] }

abbrev wide : Members
wide = record inside { places = true ∷ false ∷ false ∷ [] }

abbrev events : List Event
events =
    Nominate 1772910000 ship firm 80
    ∷ Freeze 1772922600
    ∷ publish 1772922600 (asked 100 1 1 (line 1 0 80 ∷ [])) (80 ∷ [])
    ∷ Freeze 1772937000
    ∷ publish 1772937000 (asked 100 2 2 (line 1 80 80 ∷ [])) (80 ∷ [])
    ∷ PostCapacity 1772985000 (record { 0 = 0 }) 60
    ∷ Freeze 1772991000
    ∷ Declare 1772991000 3 inside
    ∷ Skip 1772991100
    ∷ Freeze 1773007200
    ∷ Declare 1773007200 4 inside
    ∷ Waive 1773007300 0
    ∷ Freeze 1773007300
    ∷ publish 1773007300 (asked 60 4 4 (line 1 29 80 ∷ [])) (60 ∷ [])
    ∷ publish 1773007300 (asked 60 4 5 (line 1 29 80 ∷ [])) (60 ∷ [])
    ∷ publish 1773007400 (asked 60 4 5 (line 1 29 80 ∷ [])) (60 ∷ []) ∷ []

run : answers day [] events
    ≡ Ok (Accepted 1 1 0) ∷ Ok (Frozen 2 1 1 1) ∷ Ok (Published 3 1 1 []) ∷ Ok (Frozen 4 2 2 1) ∷ Ok (Published 5 2 2 [])
    ∷ Ok (Done 6) ∷ Ok (Frozen 7 3 3 1) ∷ Ok (Declared 8 3 3) ∷ Ok (Done 9)
    ∷ Ok (Frozen 10 4 4 1) ∷ Ok (Declared 11 4 4) ∷ Ok (Done 12) ∷ Ok (Frozen 13 4 5 1)
    ∷ Err (StaleRound 5) ∷ Ok (Published 14 4 5 ((0, 20) ∷ [])) ∷ Err NotFrozen ∷ []
unfolding walk place
run = refl

-- the same day with sets that are no cut; a skip and a waiver with no cut, and after a skip the cut is forgotten
abbrev others : List Event
others =
    Nominate 1772910000 ship firm 80
    ∷ Skip 1772910000
    ∷ Waive 1772910000 0
    ∷ Freeze 1772922600
    ∷ Declare 1772922600 1 inside
    ∷ publish 1772922600 (asked 100 1 1 (line 1 0 80 ∷ [])) (80 ∷ [])
    ∷ PostCapacity 1772922600 (record { 0 = 0 }) 60
    ∷ Freeze 1772937000
    ∷ Declare 1772937000 2 wide
    ∷ Declare 1772937000 2 half
    ∷ Declare 1772937000 1 inside
    ∷ Declare 1772937000 2 inside
    ∷ Waive 1772937000 1
    ∷ Skip 1772937000
    ∷ Skip 1772937000 ∷ []

other_run : answers day [] others
    ≡ Ok (Accepted 1 1 0) ∷ Err NoCut ∷ Err NoCut ∷ Ok (Frozen 2 1 1 1) ∷ Err (NoCutProof NotCut) ∷ Ok (Published 3 1 1 []) ∷ Ok (Done 4)
    ∷ Ok (Frozen 5 2 2 1) ∷ Err (NoCutProof Shape) ∷ Err (NoCutProof NotCut) ∷ Err (StaleRound 2) ∷ Ok (Declared 6 2 2)
    ∷ Err UnknownLine ∷ Ok (Done 7) ∷ Err NoCut ∷ []
unfolding walk place
other_run = refl
