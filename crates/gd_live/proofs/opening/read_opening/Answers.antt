use Rattle.std.proofs.Common.{ap, arith, length, length-append, ◌++◌}
use Rattle.std.proofs.lemmas.Result.{err_from_is_err_and}
use Rattle.std.specs.Prelude.{take}
use Rattle.gd_live.specs.Openings.{GoesOn}
use Rattle.gd_live.proofs.Growing.{blames, long_of_all}
use Rattle.gd_live.proofs.opening.read_opening.Goals as goal

pub returns-in_err-take_block-clause-fault : goal.returns-in_err-take_block-clause-fault
returns-in_err-take_block-clause-fault g c =
    let p = err_from_is_err_and c.from_residual.result c.from_residual.ensures.1 in
    rw (p.1, p.2) (blames _ _ c.in_err-take_block.field-0.0 (long_of_all _ _ _ _ _ c.reads.invariant.told c.in-Ok.ensures.bytes.0) c.in_err-take_block.ensures.fault)

pub reads-smaller : goal.reads-smaller
reads-smaller g c =
    let text = c.take_block.new.text.items in
    let begun = c.take_block.new.begun.items in
    let goes : GoesOn text begun = rw c.if-branch.false at c.in_ok-take_block.ensures.taken in
    omega (
      arith,
      goes.few,
      ap length c.in_ok-take_block.ensures.bytes,
      length-append text begun,
      length-append (c.reads.text.items ++ c.reads.begun.items) (take c.in-Ok.count c.read.new.buf),
      length-append c.reads.text.items c.reads.begun.items,
      c.in-Ok.ensures.bound.1,
      c.if-count-eq0.false,
    )
