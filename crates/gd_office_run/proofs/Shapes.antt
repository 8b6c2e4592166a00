-- The shape of what closes a desk's question.
use Rattle.std.proofs.Common.{ℕ, ◌+◌, ◌<◌, zero, suc, List, [], ◌∷◌, length, Option, Some, None, arith}
use Rattle.std.specs.List.{All}
use Rattle.gd_desk.specs.declared.desk.Desk.{Desk}
use Rattle.gd_desk.specs.Desks.{ClosesFor, IsClosed, IsDesk, EachFrom}
use Rattle.gd_machine.specs.declared.event.Event.{Event}
use Rattle.gd_machine.specs.declared.event.Event.TheVariants.{Declare}
use Rattle.gd_machine.specs.Day.{Day}
use Rattle.gd_office_part.specs.declared.kept.Receipt.{Receipt}
use Rattle.gd_office_run.specs.Desks.{HasShape, IsEndShaped}
use Rattle.gd_question.specs.Posing.{Posed}

has_shape : (moment : ℕ) (q : Posed) (e : Event) → ClosesFor moment q e → HasShape q e
has_shape moment q (Declare m round cut) closes = closes.2
has_shape moment q e closes = tt

end_shaped : (days : List Day) (slot moment : ℕ) (q : Option Posed) (closed : Option Receipt) → IsClosed days slot moment q closed → IsEndShaped q closed
end_shaped days slot moment (Some q) (Some r) closes = has_shape moment q r.event closes.0
end_shaped days slot moment (Some q) None closes = tt
end_shaped days slot moment None (Some r) closes = tt
end_shaped days slot moment None None closes = tt

pub shaped : (days : List Day) (slot moment : ℕ) (desks : List Desk) → EachFrom (λ s d. IsDesk days s moment d) slot desks
    → All (λ d. IsEndShaped d.question d.closed) desks
shaped days slot moment [] all k d below = elim below [ ]
shaped days slot moment (x ∷ desks) all zero d below = end_shaped days slot moment x.question x.closed all.0.1
shaped days slot moment (x ∷ desks) all (suc k) d below =
    let rest : k < length desks = omega (arith, below) in
    shaped days (slot + 1) moment desks all.1 k d rest
