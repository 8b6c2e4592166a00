-- Two cycles and a bump, event by event: an interruptible line of 70 is scheduled in Timely, and a firm one of 50 comes in Evening.
use Rattle.std.proofs.Common.{◌≡◌, List, [], ◌∷◌, Ok, Err, refl}
use Rattle.gd_tree.specs.Walk.{walk}
use Rattle.gd_rules.specs.GasDay.{place}
use Rattle.gd_units.specs.declared.service.End.TheVariants.{Origin, Dest}
use Rattle.gd_machine.specs.declared.event.Event.{Event}
use Rattle.gd_machine.specs.declared.event.Event.TheVariants.{Nominate, Respond, Freeze}
use Rattle.gd_machine.specs.declared.reply.Reply.TheVariants.{Accepted, Done, Frozen, Published}
use Rattle.gd_machine.specs.declared.refusal.Refusal.TheVariants.{UnknownLine, TooEarly}
use Rattle.gd_machine.specs.Day.{Day}
use Rattle.gd_machine.proofs.Script.{answers, day_with, firm_contract, interruptible_contract, firm, interruptible, ship, opr, opd, line, asked, publish}

abbrev day : Day
day = day_with (firm_contract ∷ interruptible_contract ∷ []) []

abbrev events : List Event
events =
    Nominate 1772910900 ship interruptible 70
    ∷ Nominate 1772910901 ship firm 50
    ∷ Respond 1772910902 opr 0 Origin 70
    ∷ Respond 1772910903 opd 0 Dest 70
    ∷ Respond 1772910904 opr 1 Origin 50
    ∷ Freeze 1772922599
    ∷ Freeze 1772922600
    ∷ publish 1772922600 (asked 100 1 1 (line 4 0 70 ∷ [])) (70 ∷ [])
    ∷ Respond 1772930000 opr 1 Origin 50
    ∷ Respond 1772930000 opd 1 Dest 50
    ∷ Freeze 1772937000
    ∷ publish 1772937000 (asked 100 2 2 (line 4 0 70 ∷ line 1 0 50 ∷ [])) (50 ∷ 50 ∷ []) ∷ []

run : answers day [] events
    ≡ Ok (Accepted 1 1 0) ∷ Ok (Accepted 2 2 1) ∷ Ok (Done 3) ∷ Ok (Done 4) ∷ Err UnknownLine ∷ Err TooEarly
    ∷ Ok (Frozen 5 1 1 1) ∷ Ok (Published 6 1 1 []) ∷ Ok (Done 7) ∷ Ok (Done 8)
    ∷ Ok (Frozen 9 2 2 2) ∷ Ok (Published 10 2 2 ((0, 20) ∷ [])) ∷ []
unfolding walk place
run = refl
