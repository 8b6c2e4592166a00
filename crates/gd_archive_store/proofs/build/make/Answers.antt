use Rattle.std.proofs.Common.{◌≡◌, ◌≤◌, inl, ap, sym, subst, ◌∙◌, rules}
use Rattle.sqlite.specs.Held.{state}
use Rattle.sqlite.specs.Effect.{Database}
use Rattle.gd_archive_store.specs.Tables.{first_tables}
use Rattle.gd_archive_store.specs.Stages.{HasOrLacks}
use Rattle.gd_archive_store.specs.declared.fault.StoreFault.TheVariants.{Store}
use Rattle.gd_archive_store.proofs.Growing.{makes_err, made_of}
use Rattle.gd_archive_store.proofs.build.make.Goals as goal

pub returns-in_err-is_lacking-clause-made : goal.returns-in_err-is_lacking-clause-made
returns-in_err-is_lacking-clause-made g c clean =
    makes_err (state g.S.Store c.args.conn.now) (state g.S.Store c.lacks_version.new.conn) c.from_residual.result c.in_err-is_lacking.field-0.0 c.from_residual.ensures.1
    (c.in_err-is_lacking.ensures.stopped clean)

pub returns-in_default-clause-made : goal.returns-in_default-clause-made
returns-in_default-clause-made g c clean =
    let read = c.in_ok-is_lacking.ensures.read clean in
    (λ _. read.1, λ says. absurd (read.0.other says))

pub returns-in_err-complete-clause-made : goal.returns-in_err-complete-clause-made
returns-in_err-complete-clause-made g c clean =
    let old = state g.S.Store c.args.conn.now in
    let read = c.in_ok-is_lacking.ensures.read (c.complete.ensures.clean clean) in
    let count = c.in-Some.count in
    let counted : (count ≤ 3) × (old.now.schema ≡ first_tables count) = search rules in
    let has = ap (λ (d : Database). d.schema) read.1 ∙ counted.1 in
    let had = subst (HasOrLacks c.in_ok-is_lacking.is_lacking count) (sym read.1) (read.0.version count counted.1) in
    let error = c.in_err-complete.field-0.0 in
    makes_err old (state g.S.Store c.complete.new.conn) c.from_residual-in_err-complete.result (Store error) c.from_residual-in_err-complete.ensures.1
    (λ up. c.in_err-complete.ensures.whole clean counted.0 has had up ∙ read.1, λ says. absurd (read.0.other says))

pub returns-clause-made : goal.returns-clause-made
returns-clause-made g c clean =
    let old = state g.S.Store c.args.conn.now in
    let mid = state g.S.Store c.lacks_version.new.conn in
    let new = state g.S.Store c.complete.new.conn in
    let read = c.in_ok-is_lacking.ensures.read (c.complete.ensures.clean clean) in
    let count = c.in-Some.count in
    let counted : (count ≤ 3) × (old.now.schema ≡ first_tables count) = search rules in
    let has = ap (λ (d : Database). d.schema) read.1 ∙ counted.1 in
    let had = subst (HasOrLacks c.in_ok-is_lacking.is_lacking count) (sym read.1) (read.0.version count counted.1) in
    inl (made_of count old.now mid.now new.now new.committed read.1 (c.in_ok-complete.ensures.completed clean counted.0 has had))
