use Rattle.gd_scale.specs.Words.{words}
use Rattle.gd_scale.proofs.Words.{both_lawful, words_lawful}
use Rattle.gd_scale.proofs.groups_of_words_are_lawful.Goals as goal

pub returns : goal.returns
returns c m n = both_lawful (words m) (words n) (words_lawful m) (words_lawful n)
