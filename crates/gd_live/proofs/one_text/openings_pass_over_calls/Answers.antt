use Rattle.gd_live.proofs.PassedOver.{opened_still}
use Rattle.gd_live.proofs.one_text.openings_pass_over_calls.Goals as goal

pub returns : goal.returns
returns c = opened_still
