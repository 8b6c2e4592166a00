use Rattle.std.proofs.Common.{◌≡◌, true, false, subst, rules}
use Rattle.sqlite.specs.Held.{state}
use Rattle.gd_archive_store.specs.Stages.{HasOrLacks}
use Rattle.gd_archive_store.proofs.Growing.{whole_tables, version_entered}
use Rattle.gd_archive_store.proofs.build.complete_tables.Goals as goal

pub returns-then-not-lacks_version-clause-completed : goal.returns-then-not-lacks_version-clause-completed
returns-then-not-lacks_version-clause-completed g c clean inside most has had =
    let old = state g.S.Store c.args.tx.now.conn.now in
    let new = state g.S.Store c.create_from.new.tx.conn.now in
    let grown = c.in_ok-create_from.ensures.grown clean inside most has in
    let off : c.args.lacks_version ≡ false = search rules in
    (whole_tables c.args.count old.now new.now has (subst (λ b. HasOrLacks b c.args.count old.now) off had) grown.0, grown.1)

pub returns-clause-completed : goal.returns-clause-completed
returns-clause-completed g c clean inside most has had =
    let old = state g.S.Store c.args.tx.now.conn.now in
    let mid = state g.S.Store c.create_from.new.tx.conn.now in
    let new = state g.S.Store c.run.new.tx.conn.now in
    let grown = c.in_ok-create_from.ensures.grown (c.run.ensures.clean clean) inside most has in
    let entered = c.in_ok-run.ensures.ran clean grown.1 in
    let on : c.args.lacks_version ≡ true = search rules in
    (version_entered c.args.count old.now mid new c.in_ok-run.field-0 has (subst (λ b. HasOrLacks b c.args.count old.now) on had) grown.0 entered.0, entered.1)
