use Rattle.gd_live.proofs.Alike.{read_behind}
use Rattle.gd_live.proofs.one_text.calls_are_read_behind_an_opening.Goals as goal

pub returns : goal.returns
returns c = read_behind
