use Rattle.std.proofs.Common.{map, subst}
use Rattle.gd_rules.specs.Spread.{IsBest}
use Rattle.gd_rules.proofs.Better.{prices_show_best}
use Rattle.gd_cost.specs.Parts.{class_words}
use Rattle.gd_certificate.specs.Checked.{Certificate, IsRight}
use Rattle.gd_certificate.proofs.checked.Checked.known.Goals as goal

shown : (c : Certificate) → IsRight c → IsBest c.question.asked c.schedule
shown c r = prices_show_best c.question.asked c.schedule (map class_words c.prices) r.0 r.1.priced

pub returns-clause-best : goal.returns-clause-best
returns-clause-best c = shown c.args.self.now (subst IsRight c.self.view_is c.self.invariant)
