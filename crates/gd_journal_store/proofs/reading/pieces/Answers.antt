use Rattle.std.proofs.Common.{inl, ◌≡◌, ◌≢◌, ◌+◌, sym, ap, arith, length, map, ◌∙◌}
use Rattle.std.proofs.lemmas.Result.{IfOk-weaker, IfErr-weaker}
use Rattle.std.proofs.lemmas.List.{length-map}
use Rattle.sqlite.specs.Held.{state}
use Rattle.gd_journal_store.specs.Seen.{seen}
use Rattle.gd_journal_store.specs.Rows.{shape}
use Rattle.gd_journal_store.specs.Calls.{part, KeepsFewer}
use Rattle.gd_journal_store.proofs.Numbers.{length_numbered, numbered_same}
use Rattle.gd_journal_store.proofs.Settling.{same_of, still, stops, too_few}
use Rattle.gd_journal_store.proofs.Counting.{on_err, damage_weaker}
use Rattle.gd_journal_store.proofs.reading.pieces.Goals as goal

pub returns-clause-read : goal.returns-clause-read
returns-clause-read g c clean ps had =
    let old = state g.S.Store c.args.conn.now in
    let new = state g.S.Store c.rows_behind.new.conn in
    let shown = c.in_ok-rows.ensures.shown clean had.now.schema in
    IfOk-weaker c.all_pieces.result _ _ (λ v is. (
      numbered_same (c.args.after + 1) _ _ (sym (rw c.as_slice.ensures.value at is) ∙ shown.0 ps had.now.pieces),
      still ps old new (g.met.S.Store.settled c.rows_behind.new.conn.store) shown.1 had,
    )) c.all_pieces.ensures.read

pub returns-clause-whole : goal.returns-clause-whole
returns-clause-whole g c =
    let rows = c.in_ok-rows.rows.items in
    let len : length rows ≡ c.args.count = omega (arith, ap length c.as_slice.ensures.value, c.as_slice.ensures.len, c.len.ensures, c.if-len-count.false) in
    IfOk-weaker c.all_pieces.result _ _ (λ v is.
    omega (arith, len, ap length (rw c.as_slice.ensures.value at is), length-map rows shape, length_numbered (c.args.after + 1) (map seen v.items), length-map v.items seen)) c.all_pieces.ensures.read

pub returns-then-len-count-clause-refused : goal.returns-then-len-count-clause-refused
returns-then-len-count-clause-refused g c clean =
    let old = state g.S.Store c.args.conn.now in
    let new = state g.S.Store c.rows_behind.new.conn in
    let is = c.in_ok-expect_journal.ensures in
    let shown = c.in_ok-rows.ensures.shown clean is.journal in
    let rows = c.in_ok-rows.rows.items in
    let short : length rows ≢ c.args.count = λ whole. omega (arith, whole, c.len.ensures, c.if-len-count.true) in
    (λ ps few keeps. too_few ps c.args.after c.args.count rows (shown.0 ps keeps.pieces) short, same_of old new is.settled (inl shown.1))

pub returns-clause-refused : goal.returns-clause-refused
returns-clause-refused g c clean =
    let old = state g.S.Store c.args.conn.now in
    let new = state g.S.Store c.rows_behind.new.conn in
    let is = c.in_ok-expect_journal.ensures in
    let shown = c.in_ok-rows.ensures.shown clean is.journal in
    let rows = c.in_ok-rows.rows.items in
    let len : length rows ≡ c.args.count = omega (arith, ap length c.as_slice.ensures.value, c.as_slice.ensures.len, c.len.ensures, c.if-len-count.false) in
    let damage = KeepsFewer (c.args.after + c.args.count) old.now in
    let told = IfErr-weaker c.all_pieces.result _ _ (λ fault. damage_weaker _ damage fault (λ over ps few keeps.
    omega (arith, few, len, (rw c.as_slice.ensures.value at over) (part c.args.after c.args.count ps) (shown.0 ps keeps.pieces)))) c.all_pieces.ensures.fault in
    stops damage old new c.all_pieces.result is.settled told (on_err c.all_pieces.result (inl shown.1))
