use Rattle.std.proofs.Common.{◌+◌, [], ◌∷◌, ap, ◌∙◌}
use Rattle.gd_journal_store.specs.Seen.{seen}
use Rattle.gd_serving.specs.Yields.{Yield, kept_count}
use Rattle.gd_serving.proofs.Fits.{begins, line_fits, line_differs, piece_fits, end_differs}
use Rattle.gd_serving.proofs.fitting.fits.Goals as goal

pub lines-init : goal.lines-init
lines-init g c =
    let p = seen c.args.piece.now in
    rw (c.as_slice-bytes.ensures.value, c.as_slice-told.ensures.value) (begins g.D.TakesLines.gives c.args.desk.now p c.args.next.now)

pub returns-in_default-2-clause-differs : goal.returns-in_default-2-clause-differs
returns-in_default-2-clause-differs g c _ =
    let now = c.lines in
    let it = c.in_ok-rows_left.ensures in
    let other = rw c.in_default-2.is at it.3 in
    line_differs g.D.TakesLines.gives c.args.desk.now (seen c.args.piece.now) c.args.next.now now.desk now.bytes.now now.rows.now now.told.now now.next now.invariant
    c.in-Some.line.now c.in-Some.rest.now c.in-Some.ensures.0 c.in-Some.ensures.1 c.take_again.new.desk it.0 it.1 other

pub lines-preserved : goal.lines-preserved
lines-preserved g c =
    let now = c.lines in
    let it = c.in_ok-rows_left.ensures in
    let left = rw c.in-Some-2.is at it.3 in
    let next = c.in_ok-next.ensures ∙ ap (λ (y : Yield). now.next + kept_count (y ∷ [])) it.2 in
    line_fits g.D.TakesLines.gives c.args.desk.now (seen c.args.piece.now) c.args.next.now now.desk now.bytes.now now.rows.now now.told.now now.next now.invariant
    c.in-Some.line.now c.in-Some.rest.now c.in-Some.ensures.0 c.in-Some.ensures.1 c.take_again.new.desk it.0 it.1
    c.in-Some-2.rows_left.now c.in-Some-2.told_left.now c.in_ok-next.field-0 left.0 left.1 next

pub returns-clause-fits : goal.returns-clause-fits
returns-clause-fits g c is =
    let now = c.lines in
    let all = c.is_used_up.ensures.all is in
    piece_fits g.D.TakesLines.gives c.args.desk.now (seen c.args.piece.now) c.args.next.now now.desk now.bytes.now now.rows.now now.told.now now.next now.invariant c.in_default.ensures all.0 all.1 all.2

pub returns-clause-differs : goal.returns-clause-differs
returns-clause-differs g c is =
    let now = c.lines in
    end_differs g.D.TakesLines.gives c.args.desk.now (seen c.args.piece.now) c.args.next.now now.desk now.bytes.now now.rows.now now.told.now now.next now.invariant c.in_default.ensures (c.is_used_up.ensures.some is)
