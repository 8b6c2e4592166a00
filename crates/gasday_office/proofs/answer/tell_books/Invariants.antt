use Rattle.std.proofs.Common.{map}
use Rattle.gasday_office.proofs.answer.tell_books.Given as goal

-- The opening values that are known are those of the books.
abbrev pub ghosts-tell_opened : goal.ghosts-tell_opened
ghosts-tell_opened g a = record { days = map (λ b. b.day) a.books.items }
