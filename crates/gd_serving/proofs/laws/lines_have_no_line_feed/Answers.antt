use Rattle.gd_serving.proofs.Cutting.{no_ends}
use Rattle.gd_serving.proofs.laws.lines_have_no_line_feed.Goals as goal

pub returns : goal.returns
returns c = no_ends
