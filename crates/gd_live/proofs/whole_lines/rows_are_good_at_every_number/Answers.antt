use Rattle.gd_live.proofs.Renumbered.{anywhere}
use Rattle.gd_live.proofs.whole_lines.rows_are_good_at_every_number.Goals as goal

pub returns : goal.returns
returns c = anywhere
