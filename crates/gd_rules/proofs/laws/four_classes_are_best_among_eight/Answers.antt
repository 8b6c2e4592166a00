use Rattle.std.proofs.Common.{arith}
use Rattle.gd_rules.proofs.FewClasses as FewClasses
use Rattle.gd_rules.proofs.laws.four_classes_are_best_among_eight.Goals as goal

pub returns : goal.returns
returns c = λ q x h. FewClasses.best_among 4 8 q x (omega arith) h
