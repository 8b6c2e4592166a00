use Rattle.std.proofs.Common.{◌≡◌, inr, rules, refl, false, IsTrue}
use Rattle.std.proofs.lemmas.Result.{IfOk-weaker, IfErr-weaker}
use Rattle.sqlite.specs.Held.{state}
use Rattle.gd_archive_store.specs.Tables.{HasArchive}
use Rattle.gd_archive_store.proofs.Reading.{on_some}
use Rattle.gd_archive_store.proofs.version.version_found.Goals as goal

pub returns-then-not-has_archive-clause-read : goal.returns-then-not-has_archive-clause-read
returns-then-not-has_archive-clause-read g c clean =
    let no : HasArchive c.args.conn.now.schema → ⊥ = search rules in
    (λ has. absurd (no has), refl, tt)

pub returns-clause-read : goal.returns-clause-read
returns-clause-read g c clean =
    let old = state g.S.Store c.args.conn.now in
    let has : HasArchive c.args.conn.now.schema = search rules in
    let mode : old.in_transaction ≡ false = search rules in
    let settled : IsTrue old.is_open → old.now ≡ old.committed = search rules in
    IfOk-weaker c.number_of.result _ _ (λ found read. (read.0, read.1.0.now_is, on_some found (read.1, record { mode = mode; now = settled read.1.0.was_open }))) (c.number_of.ensures.read clean has)

pub returns-clause-hindered : goal.returns-clause-hindered
returns-clause-hindered g c clean =
    IfErr-weaker c.number_of.result _ _ (λ e cut n low says. inr (cut n low says)) (c.number_of.ensures.cut_off clean)
