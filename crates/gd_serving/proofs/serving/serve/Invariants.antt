use Rattle.sqlite.specs.Held.{state}
use Rattle.gd_serving.proofs.Runs.{IsServing}
use Rattle.gd_serving.proofs.serving.serve.Given as goal

-- What lines yielded so far is kept and told.
abbrev pub invariant-turns : goal.invariant-turns
invariant-turns g l =
    IsServing g.D.TakesLines.gives l.fn.desk l.fn.next (state g.S.Store l.fn.conn) (state g.S.Store l.conn) (g.R.Read.remaining l.fn.reader) (g.R.Read.remaining l.reader)
    (g.W.Write.contents l.fn.writer) (g.W.Write.contents l.writer) l.desk l.intake.begun.items l.intake.next
