use Rattle.std.proofs.Common.{inl, inr, refl}
use Rattle.std.proofs.KnownBytes.{Appends-kept}
use Rattle.sqlite.specs.Held.{state}
use Rattle.gd_serving.specs.declared.failure.Failure.TheVariants.{WriteFailed}
use Rattle.gasday_live.proofs.ReadPieces.{front_kept}
use Rattle.gasday_live.proofs.text.print_book.Goals as goal

pub returns-else-is_err-clause-printed : goal.returns-else-is_err-clause-printed
returns-else-is_err-clause-printed g c clean =
    let (ps, keeps, all) = c.in-Ok.ensures.text clean in
    inl (ps, keeps, Appends-kept _ _ _ _ all c.flush.ensures.bytes, c.told_nothing-in-Ok.ensures)

pub returns-in-Err-clause-printed : goal.returns-in-Err-clause-printed
returns-in-Err-clause-printed g c clean =
    inr (g.W.Write.contents c.write_text.new.writer, c.write_text.ensures.front clean, (c.in-Err.why, c.in-Err.ensures.failed, c.tell_failure.ensures))

pub returns-then-is_err-clause-printed : goal.returns-then-is_err-clause-printed
returns-then-is_err-clause-printed g c clean =
    let front = front_kept (state g.S.Store c.args.conn.now) _ _ _ (c.write_text.ensures.front clean) c.flush.ensures.bytes in
    inr (g.W.Write.contents c.flush.new.self, front, (WriteFailed, tt, (refl, c.told_nothing.ensures)))
