use Rattle.gd_live.proofs.OneText.{one_text}
use Rattle.gd_live.proofs.one_text.calls_follow_their_opening.Goals as goal

pub returns : goal.returns
returns c = one_text c.calls_are_read_behind_an_opening.ensures
