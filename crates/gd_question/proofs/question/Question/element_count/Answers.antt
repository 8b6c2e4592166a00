use Rattle.std.proofs.Common.{sym, ◌∙◌, ap, length}
use Rattle.gd_system.specs.Pipeline.{elements_of}
use Rattle.gd_question.specs.Posing.{Posed}
use Rattle.gd_question.proofs.InForceLemmas.{length-in_force}
use Rattle.gd_question.proofs.question.Question.element_count.Goals as goal

pub returns : goal.returns
returns c =
    let q = c.self.inside in
    c.element_count.ensures ∙ sym (length-in_force (elements_of q.system) q.capacities.items) ∙ ap (λ (p : Posed). length p.asked.elements) c.self.view_is
