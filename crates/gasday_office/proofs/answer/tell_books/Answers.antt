use Rattle.gasday_office.proofs.OpenedBooks.{known_days}
use Rattle.gasday_office.proofs.answer.tell_books.Goals as goal

pub tell_opened-requires-after_bounds : goal.tell_opened-requires-after_bounds
tell_opened-requires-after_bounds g c κs within = known_days c.args.books.items
