-- In Intraday 3 no line is bumped: an interruptible line of 70 is in effect throughout, and a firm one of 50 comes last. Of the interruptible one 37 have flowed, but its floor is 70.
use Rattle.std.proofs.Common.{◌≡◌, List, [], ◌∷◌, Ok, Err, refl}
use Rattle.gd_tree.specs.Walk.{walk}
use Rattle.gd_rules.specs.GasDay.{place}
use Rattle.gd_units.specs.declared.service.End.TheVariants.{Origin, Dest}
use Rattle.gd_machine.specs.declared.event.Event.{Event}
use Rattle.gd_machine.specs.declared.event.Event.TheVariants.{Nominate, Respond, PostCapacity, Freeze}
use Rattle.gd_machine.specs.declared.reply.Reply.TheVariants.{Accepted, Done, Frozen, Published}
use Rattle.gd_machine.specs.declared.refusal.Refusal.TheVariants.{DayClosed, AllSettled}
use Rattle.gd_machine.specs.Day.{Day}
use Rattle.gd_machine.proofs.Script.{answers, day_with, firm_contract, interruptible_contract, firm, interruptible, ship, opr, opd, line, asked, publish}

abbrev day : Day
day = day_with (firm_contract ∷ interruptible_contract ∷ []) []

-- in Intraday 1 and 2 the floor of the interruptible line is what has flowed: 14 and 25
abbrev events : List Event
events =
    Nominate 1772910900 ship interruptible 70
    ∷ Respond 1772910902 opr 0 Origin 70
    ∷ Respond 1772910903 opd 0 Dest 70
    ∷ Freeze 1772922600
    ∷ publish 1772922600 (asked 100 1 1 (line 4 0 70 ∷ [])) (70 ∷ [])
    ∷ Freeze 1772937000
    ∷ publish 1772937000 (asked 100 2 2 (line 4 0 70 ∷ [])) (70 ∷ [])
    ∷ Freeze 1772991000
    ∷ publish 1772991000 (asked 100 3 3 (line 4 14 70 ∷ [])) (70 ∷ [])
    ∷ Freeze 1773007200
    ∷ publish 1773007200 (asked 100 4 4 (line 4 25 70 ∷ [])) (70 ∷ [])
    ∷ Nominate 1773015300 ship firm 50
    ∷ Nominate 1773015301 ship firm 50
    ∷ Respond 1773015302 opr 1 Origin 50
    ∷ Respond 1773015302 opd 1 Dest 50
    ∷ Freeze 1773023400
    ∷ publish 1773023400 (asked 100 5 5 (line 4 70 70 ∷ line 1 0 50 ∷ [])) (70 ∷ 30 ∷ [])
    ∷ Freeze 1773023400
    ∷ PostCapacity 1773023400 (record { 0 = 9 }) 50
    ∷ Nominate 1772910900 ship firm 50 ∷ []

run : answers day [] events
    ≡ Ok (Accepted 1 1 0) ∷ Ok (Done 2) ∷ Ok (Done 3)
    ∷ Ok (Frozen 4 1 1 1) ∷ Ok (Published 5 1 1 []) ∷ Ok (Frozen 6 2 2 1) ∷ Ok (Published 7 2 2 [])
    ∷ Ok (Frozen 8 3 3 1) ∷ Ok (Published 9 3 3 []) ∷ Ok (Frozen 10 4 4 1) ∷ Ok (Published 11 4 4 [])
    ∷ Ok (Accepted 12 5 1) ∷ Err DayClosed ∷ Ok (Done 13) ∷ Ok (Done 14)
    ∷ Ok (Frozen 15 5 5 2) ∷ Ok (Published 16 5 5 [])
    ∷ Err AllSettled ∷ Err AllSettled ∷ Err DayClosed ∷ []
unfolding walk place
run = refl
