use Rattle.gasday_live.proofs.TextLengths.{served_books_are_days}
use Rattle.gasday_live.proofs.laws.served_book_is_day.Goals as goal

pub returns : goal.returns
returns c = served_books_are_days c.book_is_day.ensures c.a_book_grows.ensures c.row_lines_are_plain.ensures.plain c.lines_follow_a_text.ensures.records
