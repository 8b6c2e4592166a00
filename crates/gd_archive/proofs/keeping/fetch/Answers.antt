use Rattle.std.proofs.Common.{Ok, Some, rules, subst, ◌∙◌}
use Rattle.sqlite.specs.Held.{state}
use Rattle.gd_archive_store.specs.Calls.{Finds}
use Rattle.gd_archive.proofs.Refused.{fetches_stopped, fetches_told}
use Rattle.gd_archive.proofs.keeping.fetch.Goals as goal

pub returns-in_err-row-clause-fetched : goal.returns-in_err-row-clause-fetched
returns-in_err-row-clause-fetched g c clean =
    let old = state g.S.Store c.args.conn.now in
    let new = state g.S.Store c.find.new.conn in
    fetches_stopped old new c.args.book c.args.cycle c.from_residual.result c.in_err-row.field-0.0 c.from_residual.ensures.1 (c.in_err-row.ensures.found clean)

pub returns-in_err-told_in-clause-fetched : goal.returns-in_err-told_in-clause-fetched
returns-in_err-told_in-clause-fetched g c clean =
    let old = state g.S.Store c.args.conn.now in
    let new = state g.S.Store c.find.new.conn in
    let row = c.in-Some.row in
    let found : Finds old new c.args.book c.args.cycle (Ok (Some row)) = search rules in
    fetches_told old new c.args.book c.args.cycle row c.from_residual-in_err-told_in.result c.in_err-told_in.field-0.0 c.from_residual-in_err-told_in.ensures.1 found c.in_err-told_in.ensures

pub returns-clause-fetched : goal.returns-clause-fetched
returns-clause-fetched g c clean =
    let old = state g.S.Store c.args.conn.now in
    let new = state g.S.Store c.find.new.conn in
    let row = c.in-Some.row in
    let told = c.in_ok-row.ensures.found clean in
    let of_book = subst (λ b. Finds old new b c.from.result (Ok c.in_ok-row.field-0)) c.as_str.ensures told in
    let of_cycle = subst (λ n. Finds old new c.args.book n (Ok c.in_ok-row.field-0)) (c.from.ensures ∙ c.number.ensures.is) of_book in
    (row, subst (λ r. Finds old new c.args.book c.args.cycle (Ok r)) c.in-Some.is of_cycle, c.in_ok-told_in.ensures)
