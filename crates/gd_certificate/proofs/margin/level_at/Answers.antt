use Rattle.std.proofs.Common.{◌≡◌, ◌<◌, ◌^◌, length, map, IsTrue, subst, sym, ap, ◌∙◌, arith}
use Rattle.std.specs.Prelude.{pos}
use Rattle.gd_rules.specs.Question.{element, place_of}
use Rattle.gd_certificate.proofs.Rise.{read}
use Rattle.gd_certificate.proofs.margin.level_at.Goals as goal

pub returns-clause-small : goal.returns-clause-small
returns-clause-small g c =
    let same : c.place.result.0 ≡ place_of (element c.args.question.now.asked c.args.at.0) = c.place.ensures ∙ ap place_of c.part.ensures in
    let hung = c.placed.ensures.hung c.args.at.0 c.requires.known in
    let below : c.place.result.0 < length (map g.C.Cost.meaning c.args.levels.now) = omega (arith, same, hung, c.requires.levels.long) in
    subst (λ z. IsTrue (g.C.Cost.within (pos (2 ^ 52)) z)) (sym (read g.C.Cost.meaning c.args.levels.now c.place.result.0 c.index-levels-place.result g.C.Cost.scale.none below c.index-levels-place.is)) (c.requires.levels.small c.place.result.0)
