use Rattle.gd_live.proofs.Following.{text_joins}
use Rattle.gd_live.proofs.whole_lines.closed_text_joins.Goals as goal

pub returns : goal.returns
returns c = text_joins
