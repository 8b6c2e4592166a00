use Rattle.gd_serving.proofs.Cutting.{uncut_again}
use Rattle.gd_serving.proofs.laws.lines_are_the_bytes.Goals as goal

pub returns : goal.returns
returns c = uncut_again
