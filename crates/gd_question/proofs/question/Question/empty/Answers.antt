use Rattle.std.proofs.Common.{ap, ◌∙◌, List, map}
use Rattle.gd_rules.specs.Question as rules
use Rattle.gd_system.specs.Pipeline.{elements_of}
use Rattle.gd_question.specs.Posing.{Posed}
use Rattle.gd_question.specs.Rows.{line_of}
use Rattle.gd_question.specs.declared.question.Row.{Row}
use Rattle.gd_question.proofs.Limits.{in_force-own}
use Rattle.gd_question.proofs.question.Question.empty.Goals as goal

pub returns-in-Ok : goal.returns-in-Ok
returns-in-Ok c =
    let p = c.args.system in
    let whole = λ (elements : List rules.Element) (rows : List Row). let q : Posed = record { pipeline = p; asked = record { elements = elements; lines = map (line_of p) rows }; book = c.args.book; cycle = c.args.cycle; round = c.args.round } in q in
    ap (λ (elements : List rules.Element). whole elements c.new.result.items) (in_force-own p c.in-Ok.capacities.items c.in-Ok.ensures.own)
    ∙ ap (λ (rows : List Row). whole (elements_of p) rows) c.new.ensures.items
