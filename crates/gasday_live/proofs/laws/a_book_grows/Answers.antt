use Rattle.gasday_live.proofs.Making.{books_grow}
use Rattle.gasday_live.proofs.laws.a_book_grows.Goals as goal

pub returns : goal.returns
returns c = books_grow c.what_is_kept_are_calls.ensures c.calls_go_on.ensures
