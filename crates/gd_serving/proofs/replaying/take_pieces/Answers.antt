use Rattle.std.proofs.Common.{rules, ◌≡◌, ◌<◌, ◌+◌, length, arith, add-zero, sym, ◌∙◌}
use Rattle.gd_serving.proofs.Again.{begins, goes_on, differs}
use Rattle.gd_serving.proofs.replaying.take_pieces.Goals as goal

pub pieces-init : goal.pieces-init
pieces-init g c = record {
  number_is = c.from-number.ensures ∙ sym (add-zero c.args.after);
  again = begins g.D.TakesLines.gives c.args.desk.now c.args.all.now c.args.next.now;
}

pub pieces-preserved : goal.pieces-preserved
pieces-preserved g c =
    let now = c.pieces in
    let low : now.piece-index < length c.args.all.now = search rules in
    let next : now.number + 1 ≡ c.args.after + (now.piece-index + 1) = omega (arith, now.invariant.number_is) in
    record {
      number_is = next;
      again = goes_on g.D.TakesLines.gives c.args.desk.now c.args.all.now c.args.next.now now.piece-index now.desk now.next now.invariant.again c.piece-item.result low c.piece-item.is
          c.fits.new.desk c.fits.new.next (c.in_ok-fits.ensures.fits c.if-not-branch.false);
    }

pub returns-then-not-branch-clause-differs : goal.returns-then-not-branch-clause-differs
returns-then-not-branch-clause-differs g c =
    let now = c.pieces in
    let low : now.piece-index < length c.args.all.now = search rules in
    let number : now.number + 1 ≡ (c.args.after + now.piece-index) + 1 = omega (arith, now.invariant.number_is) in
    differs g.D.TakesLines.gives c.args.desk.now c.args.all.now c.args.next.now now.piece-index now.desk now.next now.invariant.again c.piece-item.result low c.piece-item.is
    c.args.after (now.number + 1) c.fits.new.next number (c.in_ok-fits.ensures.differs c.if-not-branch.true)
