use Rattle.gd_live.proofs.Alike.{none_of_a_call}
use Rattle.gd_live.proofs.one_text.openings_have_no_row_of_a_call.Goals as goal

pub returns : goal.returns
returns c = none_of_a_call
