use Rattle.std.proofs.Common.{◌≡◌, [], length, refl, ◌∙◌, rules, arith}
use Rattle.sqlite.specs.Held.{state}
use Rattle.sqlite.specs.State.{HasCleanDisk, IsUnchanged}
use Rattle.sqlite.proofs.Callers.{begun_plain, unchanged_then}
use Rattle.sqlite.proofs.StateLemmas.{survives_then}
use Rattle.gd_journal_store.specs.Pieces.{HasPieces}
use Rattle.gd_journal_store.specs.Calls.{IsOfRows, KeepsNone}
use Rattle.gd_journal_store.proofs.Counting.{none_counted, one_counted, all_plain, commits_nothing, all_counted, on_err, given_of, next_piece, no_more, damage_weaker}
use Rattle.gd_journal_store.proofs.Refusing.{query_refused}
use Rattle.gd_journal_store.proofs.Texts.{all_text}
use Rattle.gd_journal_store.proofs.reading.count_rows.Goals as goal

pub returns-in_err-rows-clause-refused : goal.returns-in_err-rows-clause-refused
returns-in_err-rows-clause-refused g c clean has =
    let old = state g.S.Store c.args.conn.now in
    let new = state g.S.Store c.query.follows.lender-at-none in
    let held = rw c.in_err-rows.was at c.query.follows.holds-at-none in
    on_err c.from_residual.result (query_refused old new all_text [] _ (held.err clean))

pub returns-in_err-rows-clause-survives : goal.returns-in_err-rows-clause-survives
returns-in_err-rows-clause-survives g c has =
    let old = state g.S.Store c.args.conn.now in
    let new = state g.S.Store c.query.follows.lender-at-none in
    let held = rw c.in_err-rows.was at c.query.follows.holds-at-none in
    commits_nothing old new has held.survives

pub rows-init : goal.rows-init
rows-init g c =
    let made = c.in_ok-rows.ensures in (
      refl,
      λ has. commits_nothing _ _ has made.survives,
      λ clean has. let begun = begun_plain g.S.Store _ _ c.args.conn.now _ (all_plain _ has) (made.begun clean) in (record { given = []; rows = begun.0; counted = none_counted }, begun.1),
    )

pub returns-in_default-clause-counted : goal.returns-in_default-clause-counted
returns-in_default-clause-counted g c clean has =
    let moved = c.next.follows.holds-at-none in
    let old = state g.S.Store c.args.conn.now in
    let now = state g.S.Store c.next.follows.lender-at-none.conn.now in
    let late : HasCleanDisk now = search rules in
    let was = c.rows.invariant.2 (omega (arith, moved.survives.clean)) has in
    let shown = (rw (c.in_ok-row.was, c.in_default.is) at (moved.ok late)) all_text [] was.0.given was.0.rows in
    let all : (ps : _) × (c.rows.number ≡ length ps) × HasPieces ps old.now.trees × IsUnchanged old now = all_counted old _ now was.0.given c.rows.number has was.1 shown was.0.counted in
    search rules

pub rows-preserved : goal.rows-preserved
rows-preserved g c =
    let moved = c.next.follows.holds-at-none in
    let kept = c.rows.invariant in (
      moved.same_reference ∙ kept.0,
      λ has. survives_then _ _ _ _ _ _ (λ _ _ no. no) (λ _ _ no. no) (kept.1 has) moved.survives,
      λ clean has.
          let was = kept.2 (omega (arith, moved.survives.clean)) has in
          let given = (rw (c.in_ok-row.was, c.in-Some.is) at (moved.ok clean)) all_text [] was.0.given was.0.rows in
          let same = rw c.in_ok-row.was at (moved.same clean) in
          (record { given = _; rows = given; counted = one_counted was.0.given c.rows.number _ _ was.0.counted c.in_ok-bytes_of.ensures.read }, unchanged_then _ _ _ was.1 same),
    )

pub returns-in_err-bytes_of-clause-fault : goal.returns-in_err-bytes_of-clause-fault
returns-in_err-bytes_of-clause-fault g c clean has =
    let moved = c.next.follows.holds-at-none in
    let held = c.next.follows.lender-at-none.conn.now in
    let late : HasCleanDisk (state g.S.Store held) = search rules in
    let was = c.rows.invariant.2 (omega (arith, moved.survives.clean)) has in
    let given = (rw (c.in_ok-row.was, c.in-Some.is) at (moved.ok late)) all_text [] was.0.given was.0.rows in
    let same = unchanged_then _ _ _ was.1 (rw c.in_ok-row.was at (moved.same late)) in
    let damage = KeepsNone (state g.S.Store c.args.conn.now).now in
    let told : IsOfRows damage c.in_err-bytes_of.field-0.0 = damage_weaker _ damage _ (λ no ps few keeps.
    let front = given_of g.S.Store c.args.conn.now held has same _ given ps keeps.pieces in
    no _ (next_piece was.0.given front.0 c.rows.number _ ps was.0.counted front.1).1) c.in_err-bytes_of.ensures.fault in
    search rules

pub returns-clause-fault : goal.returns-clause-fault
returns-clause-fault g c clean has ps few keeps =
    let late : HasCleanDisk (state g.S.Store c.rows.rows.conn.now) = search rules in
    let was = c.rows.invariant.2 late has in
    let front = given_of g.S.Store c.args.conn.now c.rows.rows.conn.now has was.1 _ was.0.rows ps keeps.pieces in
    let all = no_more was.0.given front.0 c.rows.number ps was.0.counted front.1 in
    omega (arith, all, few, c.rows-test.false)
