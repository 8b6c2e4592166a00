use Rattle.gasday_live.proofs.DayTexts.{book_days}
use Rattle.gasday_live.proofs.laws.book_is_day.Goals as goal

pub returns : goal.returns
returns c = book_days c.calls_follow_their_opening.ensures
