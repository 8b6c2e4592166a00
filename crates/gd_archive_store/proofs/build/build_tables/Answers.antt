use Rattle.std.proofs.Common.{arith}
use Rattle.sqlite.specs.Held.{state}
use Rattle.gd_archive_store.proofs.Growing.{builds}
use Rattle.gd_archive_store.proofs.build.build_tables.Goals as goal

pub returns-clause-built : goal.returns-clause-built
returns-clause-built g c clean inside has =
    builds (state g.S.Store c.args.tx.now.conn.now).now (state g.S.Store c.complete_tables.new.tx.conn.now) c.complete_tables.result
    (c.complete_tables.ensures.completed clean inside (omega arith) has (λ some. absurd (omega (arith, some))))
