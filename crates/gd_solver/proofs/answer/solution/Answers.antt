use Rattle.std.proofs.Common.{subst}
use Rattle.gd_rules.proofs.Cuts.{cut_forbids}
use Rattle.gd_certificate.specs.Cutting.{side_of}
use Rattle.gd_flow.specs.Repair.{Repairs}
use Rattle.gd_solver.proofs.answer.solution.Goals as goal

pub returns-in-Impossible : goal.returns-in-Impossible
returns-in-Impossible c =
    let q = c.args.network.question in
    let r = subst (Repairs q c.args.network.arcs) c.in-Impossible.is c.in_ok-feasible.ensures in
    (r.0, r.1, λ schedule a. cut_forbids q.asked (side_of q.pipeline c.in-Impossible.cut) schedule c.known.ensures.question.lined r.1 a)
