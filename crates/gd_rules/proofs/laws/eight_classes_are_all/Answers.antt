use Rattle.gd_rules.proofs.laws.eight_classes_are_all.Goals as goal

pub returns : goal.returns
returns c = λ q a b. (λ h. h, λ h. h)
