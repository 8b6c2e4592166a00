use Rattle.gd_scale.proofs.Words.{whole_lawful}
use Rattle.gd_scale.proofs.whole_numbers_are_lawful.Goals as goal

pub returns : goal.returns
returns c = whole_lawful
