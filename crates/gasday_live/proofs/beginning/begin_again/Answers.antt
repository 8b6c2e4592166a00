use Rattle.std.proofs.Common.{rules, ◌≡◌, ◌+◌}
use Rattle.sqlite.specs.Held.{state}
use Rattle.gd_live.specs.Seen.{at_desk}
use Rattle.gasday_live.proofs.BegunBooks.{old_book}
use Rattle.gasday_live.proofs.beginning.begin_again.Goals as goal

pub returns-clause-begun : goal.returns-clause-begun
returns-clause-begun g c had input was =
    let it = c.in_ok-book.ensures in
    let next : c.in-Some.next ≡ c.args.count + 1 = search rules in
    old_book had input c.new.result.items c.in_ok-book.book.calls c.args.count c.in-Some.next (at_desk c.in_ok-book.book.desk) (state g.S.Store c.args.conn.now) (state g.S.Store c.read_book.new.conn) was c.new.ensures.items it.number it.book next
