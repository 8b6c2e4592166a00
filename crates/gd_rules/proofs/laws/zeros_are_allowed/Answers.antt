use Rattle.gd_rules.proofs.Zeros as Zeros
use Rattle.gd_rules.proofs.laws.zeros_are_allowed.Goals as goal

pub returns : goal.returns
returns c = Zeros.zeros_allowed
