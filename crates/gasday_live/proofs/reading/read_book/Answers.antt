use Rattle.std.proofs.Common.{ap}
use Rattle.gd_live.specs.Seen.{at_desk}
use Rattle.gd_live.specs.Stands.{Stand}
use Rattle.gasday_live.proofs.MadeAgain.{read_again, blames_so}
use Rattle.gasday_live.proofs.reading.read_book.Goals as goal

pub returns-in-Ok-clause-book : goal.returns-in-Ok-clause-book
returns-in-Ok-clause-book g c clean ps had is =
    let first = c.in_ok-opened.ensures.opened (c.replay.ensures.clean clean) ps had in
    let again = c.in-Ok.ensures.replayed clean ps first.0 is in
    let book = c.in_ok-opened.opened in (
      again.1,
      read_again _ at_desk (λ s line t y gives. gives) c.a_book_grows.ensures ps book.book book.rows book.bytes first.1 c.into_desk-desk.result c.replay.new.desk c.in-Ok.calls c.into_desk-desk.ensures again.0
          (at_desk c.begin_run.new.self) c.begin_run.ensures,
    )

pub returns-in-Ok-clause-group : goal.returns-in-Ok-clause-group
returns-in-Ok-clause-group g c = ap (λ (s : Stand). s.group) c.begin_run.ensures

pub returns-in-Ok-clause-number : goal.returns-in-Ok-clause-number
returns-in-Ok-clause-number g c = ap (λ (s : Stand). s.number) c.begin_run.ensures

pub returns-in-Err-clause-differs : goal.returns-in-Err-clause-differs
returns-in-Err-clause-differs g c clean ps had is =
    let first = c.in_ok-opened.ensures.opened (c.replay.ensures.clean clean) ps had in
    let book = c.in_ok-opened.opened in
    blames_so ps _ book.book book.rows book.bytes first.1 c.into_desk-desk.result c.into_desk-desk.ensures (c.in-Err.ensures.differs clean ps first.0 is)
