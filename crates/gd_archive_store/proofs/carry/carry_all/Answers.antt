use Rattle.std.proofs.Common.{All, IsPermutation, map, ◌≡◌, ap, subst, rules, ◌∙◌, length, IsTrue}
use Rattle.sqlite.specs.Held.{state}
use Rattle.sqlite.specs.Effect.{Database}
use Rattle.sqlite.specs.State.{HasCleanDisk}
use Rattle.gd_archive_store.specs.Migration.{IsMigrated, carried}
use Rattle.gd_archive_store.specs.Contents.{old_rows_of}
use Rattle.gd_archive_store.specs.Stages.{IsMore}
use Rattle.gd_archive_store.proofs.Inside.{migrates, migrated_at, all_held}
use Rattle.gd_archive_store.proofs.carry.carry_all.Goals as goal

pub returns-clause-migrated : goal.returns-clause-migrated
returns-clause-migrated g c clean has =
    let end = c.commit.new.self.0 in
    let same : end ≡ c.conn-2-1.given.0 = search rules in
    let late : HasCleanDisk (state g.S.Store end) = search rules in
    let done = (c.in_ok-commit.ensures.ok late).1 in
    let old = state g.S.Store c.args.conn.now in
    let s1 = state g.S.Store c.transaction-tx.result.conn.now in
    let s2 = state g.S.Store c.old_rows.new.tx.conn.now in
    let s3 = state g.S.Store c.clear.new.tx.conn.now in
    let s4 = state g.S.Store c.build_tables.new.tx.conn.now in
    let s5 = state g.S.Store c.carry_rows.new.tx.conn.now in
    let clean5 : HasCleanDisk s5 = search rules in
    let clean4 = c.carry_rows.ensures.clean clean5 in
    let clean3 = c.build_tables.ensures.clean clean4 in
    let clean2 = c.clear.ensures.clean clean3 in
    let begun = c.transaction-tx.ensures.begun in
    let begun1 : s1.now ≡ old.now = ap (λ h. (state g.S.Store h).now) begun in
    let inside1 : IsTrue s1.in_transaction = ap (λ h. (state g.S.Store h).in_transaction) begun in
    let has1 = ap (λ (d : Database). d.schema) begun1 ∙ has in
    let shown = c.in_ok-rows.ensures.shown clean2 has1 in
    let has2 = ap (λ (d : Database). d.schema) shown.1.0.now_is ∙ has1 in
    let gone = c.in_ok-clear.ensures.gone clean3 (shown.1.0.mode ∙ inside1) has2 in
    let built = c.in_ok-build_tables.ensures.built clean4 gone.1 gone.0 in
    let more = c.in_ok-carry_rows.ensures.entered clean5 built.1 built.0 in
    let rows = c.in_ok-rows.rows.items in
    let moved = subst (λ xs. IsMore s4.now s5.now (map (carried g.R.Rewrite.rewritten) xs)) c.as_slice.ensures.value more.0 in
    let count : c.len.result ≡ length rows = search rules in
    let bag_is = subst (λ (d : Database). IsPermutation (old_rows_of d) rows) begun1 shown.0 in
    let last = migrates g.R.Rewrite.rewritten old.now s4.now s5.now rows c.len.result bag_is built.0 moved count in
    let at_end = migrated_at g.R.Rewrite.rewritten old.now s5.now (state g.S.Store end).now (state g.S.Store end).committed c.len.result last done.now_is done.committed_is in
    subst (λ h. IsMigrated g.R.Rewrite.rewritten old.now (state g.S.Store h).now c.len.result × ((state g.S.Store h).committed ≡ (state g.S.Store h).now)) same at_end

pub returns-clause-held : goal.returns-clause-held
returns-clause-held g c clean has =
    let old = state g.S.Store c.args.conn.now in
    let s1 = state g.S.Store c.transaction-tx.result.conn.now in
    let late : HasCleanDisk (state g.S.Store c.commit.new.self.0) = search rules in
    let clean5 : HasCleanDisk (state g.S.Store c.carry_rows.new.tx.conn.now) = search rules in
    let clean2 = c.clear.ensures.clean (c.build_tables.ensures.clean (c.carry_rows.ensures.clean clean5)) in
    let begun1 : s1.now ≡ old.now = ap (λ h. (state g.S.Store h).now) c.transaction-tx.ensures.begun in
    let has1 = ap (λ (d : Database). d.schema) begun1 ∙ has in
    let shown = c.in_ok-rows.ensures.shown clean2 has1 in
    let rows = c.in_ok-rows.rows.items in
    let bag_is = subst (λ (d : Database). IsPermutation (old_rows_of d) rows) begun1 shown.0 in
    all_held g.R.Rewrite.IsHeld old.now rows bag_is (subst (All g.R.Rewrite.IsHeld) c.as_slice.ensures.value c.in_ok-carry_rows.ensures.held)
