-- The schedules in effect are as many as the cycles that are over.
use Rattle.std.proofs.Common.{◌≡◌, ℕ, ◌+◌, ◌-◌, List, [], ◌∷◌, ◌++◌, length, take, get_or, refl, sym, subst, ap, ◌∙◌, arith}
use Rattle.std.proofs.lemmas.List.{length-append, take_all}
use Rattle.gd_machine.specs.declared.event.Event.{Event}
use Rattle.gd_machine.specs.declared.event.Event.TheVariants.{Nominate, Respond, PostCapacity, Freeze, Publish, Declare, Waive, Skip}
use Rattle.gd_machine.specs.declared.reply.Reply.{Reply}
use Rattle.gd_machine.specs.Day.{Day}
use Rattle.gd_machine.specs.History.{History, cycle_of, schedules}
use Rattle.gd_machine.specs.Machine.{IsLegal}
use Rattle.gd_machine.proofs.Counting.{cycle_more}
use Rattle.gd_machine.proofs.Prefixes.{after_each}
use Rattle.gd_machine.proofs.Steps.{schedules_more}
use Rattle.gd_rounds.specs.Carried.{latest}

-- one schedule is in effect for each cycle that is over, and one for the time before Timely
abbrev AreCounted : History → Type 0
AreCounted h = length (schedules h) ≡ cycle_of h

-- the event leaves the cycle as it is
stays : (h : History) (p : Event × Reply) → AreCounted h → cycle_of (h ++ p ∷ []) ≡ cycle_of h + 0 → schedules (h ++ p ∷ []) ≡ schedules h → AreCounted (h ++ p ∷ [])
stays h p was cycle same = let on : cycle_of (h ++ p ∷ []) ≡ cycle_of h = omega (arith, cycle) in ap length same ∙ was ∙ sym on

-- the event ends the cycle
ends : (h : History) (p : Event × Reply) (schedule : List ℕ) → AreCounted h → cycle_of (h ++ p ∷ []) ≡ cycle_of h + 1 → schedules (h ++ p ∷ []) ≡ schedules h ++ schedule ∷ [] → AreCounted (h ++ p ∷ [])
ends h p schedule was cycle more =
    let longer : length (schedules (h ++ p ∷ [])) ≡ length (schedules h) + 1 = ap length more ∙ length-append (schedules h) (schedule ∷ []) in
    omega (arith, longer, cycle, was)

on : (h : History) (p : Event × Reply) → AreCounted h → AreCounted (h ++ p ∷ [])
on h (Publish moment certificate, reply) was =
    let p : Event × Reply = (Publish moment certificate, reply) in ends h p certificate.schedule was (cycle_more h p) (schedules_more h p)
on h (Skip moment, reply) was =
    let p : Event × Reply = (Skip moment, reply) in ends h p (latest (schedules h)) was (cycle_more h p) (schedules_more h p)
on h (Nominate moment party key quantity, reply) was =
    let p : Event × Reply = (Nominate moment party key quantity, reply) in stays h p was (cycle_more h p) (schedules_more h p)
on h (Respond moment party line end quantity, reply) was =
    let p : Event × Reply = (Respond moment party line end quantity, reply) in stays h p was (cycle_more h p) (schedules_more h p)
on h (PostCapacity moment element capacity, reply) was =
    let p : Event × Reply = (PostCapacity moment element capacity, reply) in stays h p was (cycle_more h p) (schedules_more h p)
on h (Freeze moment, reply) was =
    let p : Event × Reply = (Freeze moment, reply) in stays h p was (cycle_more h p) (schedules_more h p)
on h (Declare moment round cut, reply) was =
    let p : Event × Reply = (Declare moment round cut, reply) in stays h p was (cycle_more h p) (schedules_more h p)
on h (Waive moment line, reply) was =
    let p : Event × Reply = (Waive moment line, reply) in stays h p was (cycle_more h p) (schedules_more h p)

-- of a legal history the last is that of the cycle before the one at hand
pub latest_is : (day : Day) (h : History) → IsLegal day h → latest (schedules h) ≡ get_or (schedules h) (cycle_of h - 1) []
latest_is day h legal =
    let all = after_each day h legal AreCounted refl (λ k p at accepted before. on (take k h) p before) (length h) in
    ap (λ n. get_or (schedules h) (n - 1) []) (subst AreCounted (take_all (length h) h (omega arith)) all)
