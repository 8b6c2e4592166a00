use Rattle.gd_scale.proofs.Words.{words_lawful}
use Rattle.gd_scale.proofs.words_are_lawful.Goals as goal

pub returns : goal.returns
returns c = words_lawful
