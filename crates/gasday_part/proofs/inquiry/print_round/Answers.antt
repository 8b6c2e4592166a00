use Rattle.std.proofs.Common.{inr, refl}
use Rattle.gasday_part.proofs.inquiry.print_round.Goals as goal

pub returns-in_ok-text_of-in-None : goal.returns-in_ok-text_of-in-None
returns-in_ok-text_of-in-None c = inr (c.round_text.ensures.none cc, c.in_ok-text_of-in-None.ensures, refl)
