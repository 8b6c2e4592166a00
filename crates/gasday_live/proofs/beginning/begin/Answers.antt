use Rattle.std.proofs.Common.{ap}
use Rattle.sqlite.specs.Held.{state}
use Rattle.gasday_live.proofs.BegunBooks.{kept_none, kept_some, lost_none, lost_read}
use Rattle.gasday_live.proofs.beginning.begin.Goals as goal

pub returns-then-keeps_none-clause-begun : goal.returns-then-keeps_none-clause-begun
returns-then-keeps_none-clause-begun g c =
    c.begin_new.ensures.begun (state g.S.Store c.args.conn.now).now (λ up.
    let back = c.begin_new.ensures.clean up in
    kept_none (state g.S.Store c.args.conn.now) (state g.S.Store c.make.new.conn) (state g.S.Store c.count.new.conn) c.in_ok-count.count (c.in_ok-make.ensures.made (c.count.ensures.clean back)) (c.in_ok-count.ensures.counted back) c.if-keeps_none.true)

pub returns-clause-begun : goal.returns-clause-begun
returns-clause-begun g c =
    c.begin_again.ensures.begun (state g.S.Store c.args.conn.now).now (g.R.Read.remaining c.args.reader.now) (λ up.
    let back = c.begin_again.ensures.clean up in
    kept_some c.pieces_are_one.ensures (state g.S.Store c.args.conn.now) (state g.S.Store c.make.new.conn) (state g.S.Store c.count.new.conn) c.in_ok-count.count (c.in_ok-make.ensures.made (c.count.ensures.clean back)) (c.in_ok-count.ensures.counted back) c.if-keeps_none.false)

pub returns-then-keeps_none-clause-unbegun : goal.returns-then-keeps_none-clause-unbegun
returns-then-keeps_none-clause-unbegun g c =
    c.begin_new.ensures.unbegun (state g.S.Store c.args.conn.now).now (λ up.
    let back = c.begin_new.ensures.clean up in
    (kept_none (state g.S.Store c.args.conn.now) (state g.S.Store c.make.new.conn) (state g.S.Store c.count.new.conn) c.in_ok-count.count (c.in_ok-make.ensures.made (c.count.ensures.clean back)) (c.in_ok-count.ensures.counted back) c.if-keeps_none.true).0)

pub returns-clause-unbegun : goal.returns-clause-unbegun
returns-clause-unbegun g c =
    c.begin_again.ensures.unbegun (state g.S.Store c.args.conn.now).now (g.R.Read.remaining c.args.reader.now) (λ up.
    let back = c.begin_again.ensures.clean up in
    kept_some c.pieces_are_one.ensures (state g.S.Store c.args.conn.now) (state g.S.Store c.make.new.conn) (state g.S.Store c.count.new.conn) c.in_ok-count.count (c.in_ok-make.ensures.made (c.count.ensures.clean back)) (c.in_ok-count.ensures.counted back) c.if-keeps_none.false)

pub returns-then-keeps_none-clause-lost : goal.returns-then-keeps_none-clause-lost
returns-then-keeps_none-clause-lost g c up ps had =
    let back = c.begin_new.ensures.clean up in
    let same = ap (state g.S.Store) (c.make.ensures.kept had.now.schema had.mode).1 in
    lost_none c.pieces_are_one.ensures ps (state g.S.Store c.args.conn.now) (state g.S.Store c.make.new.conn) (state g.S.Store c.count.new.conn) (state g.S.Store c.begin_new.new.conn) c.in_ok-count.count same (c.in_ok-count.ensures.counted back) c.if-keeps_none.true had (c.begin_new.ensures.any_moment up)

pub returns-clause-lost : goal.returns-clause-lost
returns-clause-lost g c up ps had =
    let back = c.begin_again.ensures.clean up in
    let same = ap (state g.S.Store) (c.make.ensures.kept had.now.schema had.mode).1 in
    lost_read ps (state g.S.Store c.args.conn.now) (state g.S.Store c.make.new.conn) (state g.S.Store c.begin_again.new.conn) same (λ db may. c.count.ensures.any_moment back db (c.begin_again.ensures.any_moment up db may)) had
