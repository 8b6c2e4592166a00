use Rattle.std.proofs.Common.{ℕ, ◌≤◌, List, All, [], ◌∷◌, ◌++◌, length, sym, ap, ap₂, subst, ◌∙◌, arith}
use Rattle.std.specs.Prelude.{◌==◌, if◌then◌else◌}
use Rattle.gd_book_part.specs.declared.confirmations.Confirmation.{Confirmation}
use Rattle.gd_rules.specs.Lines.{Nomination}
use Rattle.gd_rules.specs.GasDay as gas_day
use Rattle.gd_calendar.specs.Calendar.{received_times}
use Rattle.gd_book_part.proofs.Nominating.{nominate_more, nominate_classed}
use Rattle.gd_book_part.proofs.tables.Tables.nominate.Goals as goal

pub class_of-class-requires : goal.class_of-class-requires
class_of-class-requires c =
    nominate_classed c.args.opening.now c.args.history.now c.args.moment c.args.party c.args.key.now c.args.quantity c.known.ensures c.requires.accepted

pub accept-requires-clause-rising : goal.accept-requires-clause-rising
accept-requires-clause-rising c =
    let on = c.later_of-stamp.ensures in
    let last = c.requires.kept.stamp in
    subst (All (λ (n : Nomination). n.cycle ≤ c.in-Some.cycle)) (sym c.requires.kept.lines)
    (c.requires.sound.rising c.later_of-stamp.result c.in-Some.cycle (omega (arith, on, last)) (ap (λ (m : List ℕ). gas_day.cycle_of (received_times m) c.later_of-stamp.result) (sym c.calendar.ensures) ∙ sym c.cycle_of.ensures ∙ c.in-Some.is))

pub returns-clause-done : goal.returns-clause-done
returns-clause-done c =
    nominate_more c.args.opening.now c.args.history.now c.args.moment c.args.party c.args.key.now c.args.quantity c.args.self.now c.later_of-stamp.result c.in-Some.cycle c.class_of-class.result c.in_ok-line.line c.accept.new.lines c.enter.new.entries
    c.later_of-stamp.ensures c.requires.kept c.requires.sound c.requires.accepted (ap (λ (m : List ℕ). gas_day.cycle_of (received_times m) c.later_of-stamp.result) (sym c.calendar.ensures) ∙ sym c.cycle_of.ensures ∙ c.in-Some.is) c.class_of-class.ensures c.in_ok-line.ensures.number c.in_ok-line.ensures.done
    (c.enter.ensures ∙ ap₂ (λ (es : List Confirmation) (x : Confirmation). if c.in_ok-line.line == length es then es ++ x ∷ [] else es) c.in_ok-make_room.ensures.same c.nothing.ensures) c.get.result c.get.ensures.is c.get.ensures.bound
