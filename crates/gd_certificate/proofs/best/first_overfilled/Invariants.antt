use Rattle.std.proofs.Common.{map}
use Rattle.gd_schedule.specs.First.{Each}
use Rattle.gd_certificate.specs.Exact.{WorthwhileAt}
use Rattle.gd_certificate.proofs.best.first_overfilled.Given as goal

-- Those so far are right.
abbrev pub invariant-loop-line : goal.invariant-loop-line
invariant-loop-line g l = Each l.line (WorthwhileAt g.C.Cost.scale g.C.Cost.within (λ class tenth. g.C.Cost.meaning (g.C.ByClass.at class tenth)) l.question.asked l.schedule (map g.C.Cost.meaning l.prices))
