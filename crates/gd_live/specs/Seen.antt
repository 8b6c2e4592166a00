-- Where a book in memory stands.
use Rattle.gd_live.specs.declared.desk.Desk.{Desk}
use Rattle.gd_live.specs.declared.live_book.LiveBook.{LiveBook}
use Rattle.gd_live.specs.Stands.{Stand}

abbrev pub stand_of : LiveBook → Stand
stand_of b = record { day = b.book.day; history = b.book.history; group = b.group; number = b.number; room = b.room }

abbrev pub at_desk : Desk → Stand
at_desk d = stand_of d.book
