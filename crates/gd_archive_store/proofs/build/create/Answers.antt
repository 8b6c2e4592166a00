use Rattle.std.proofs.Common.{◌≡◌, rules}
use Rattle.sqlite.specs.Held.{state}
use Rattle.gd_archive_store.proofs.Growing.{archive_at, posting_at, posting2_at}
use Rattle.gd_archive_store.proofs.build.create.Goals as goal

pub returns-then-place-eq0-clause-created : goal.returns-then-place-eq0-clause-created
returns-then-place-eq0-clause-created g c clean inside low has =
    let first : c.args.place ≡ 0 = search rules in
    archive_at c.args.place (state g.S.Store c.args.tx.now.conn.now) (state g.S.Store c.run.new.tx.conn.now) c.run.result first has (c.run.ensures.ran clean inside)

pub returns-then-place-eq1-clause-created : goal.returns-then-place-eq1-clause-created
returns-then-place-eq1-clause-created g c clean inside low has =
    let second : c.args.place ≡ 1 = search rules in
    posting_at c.args.place (state g.S.Store c.args.tx.now.conn.now) (state g.S.Store c.run-then-place-eq1.new.tx.conn.now) c.run-then-place-eq1.result second has (c.run-then-place-eq1.ensures.ran clean inside)

pub returns-clause-created : goal.returns-clause-created
returns-clause-created g c clean inside low has =
    let third : c.args.place ≡ 2 = search rules in
    posting2_at c.args.place (state g.S.Store c.args.tx.now.conn.now) (state g.S.Store c.run-2.new.tx.conn.now) c.run-2.result third has (c.run-2.ensures.ran clean inside)
