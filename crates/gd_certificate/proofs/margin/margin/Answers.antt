use Rattle.std.proofs.Common.{◌≡◌, ℕ, ap, ◌∙◌}
use Rattle.gd_rules.specs.Question.{line}
use Rattle.gd_rules.specs.Spread.{tenth_of}
use Rattle.gd_certificate.proofs.margin.margin.Goals as goal

pub returns : goal.returns
returns g c =
    let s = g.C.Cost.scale in
    let l = line c.args.question.now.asked c.args.line in
    let at : ℕ → ℕ → g.C.Cost.Meaning = λ class tenth. g.C.Cost.meaning (g.C.ByClass.at class tenth) in
    let tenth : c.tenth_of-tenth.result ≡ tenth_of l.ceiling c.args.dekatherm = c.tenth_of-tenth.ensures.is ∙ ap (λ u. tenth_of u c.args.dekatherm) c.ceiling.ensures in
    let unit : g.C.Cost.meaning c.unit_at.result ≡ at l.class (tenth_of l.ceiling c.args.dekatherm) = c.unit_at.ensures ∙ ap (λ k. at k c.tenth_of-tenth.result) c.class.ensures ∙ ap (at l.class) tenth in
    c.sub.ensures ∙ ap (λ w. s.plus w (s.minus (g.C.Cost.meaning c.paid.result))) unit ∙ ap (λ w. s.plus (at l.class (tenth_of l.ceiling c.args.dekatherm)) (s.minus w)) c.paid.ensures.is
