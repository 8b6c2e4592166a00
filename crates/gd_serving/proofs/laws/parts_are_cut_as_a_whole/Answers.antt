use Rattle.gd_serving.proofs.Cutting.{cut_append}
use Rattle.gd_serving.proofs.laws.parts_are_cut_as_a_whole.Goals as goal

pub returns : goal.returns
returns c = cut_append
