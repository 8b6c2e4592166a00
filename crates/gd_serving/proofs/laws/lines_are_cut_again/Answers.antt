use Rattle.gd_serving.proofs.Cutting.{cut_again}
use Rattle.gd_serving.proofs.laws.lines_are_cut_again.Goals as goal

pub returns : goal.returns
returns c = cut_again
