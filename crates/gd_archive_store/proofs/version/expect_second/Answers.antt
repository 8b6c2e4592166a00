use Rattle.std.proofs.Common.{rules}
use Rattle.sqlite.specs.Held.{state}
use Rattle.gd_archive_store.specs.Contents.{IsKnown, IsHindered}
use Rattle.gd_archive_store.proofs.Reading.{known_version}
use Rattle.gd_archive_store.proofs.version.expect_second.Goals as goal

pub returns-in_err-number-clause-stopped : goal.returns-in_err-number-clause-stopped
returns-in_err-number-clause-stopped g c clean =
    let old = state g.S.Store c.args.conn.now in
    let hindered : IsKnown old.now → IsHindered old c.in_err-number.field-0.0 = λ known.
    let it = known_version old.now known in
    c.in_err-number.ensures.hindered clean it.0 it.1 it.2 in
    search (rules, hindered)
