use Rattle.std.proofs.Common.{ℕ, List}
use Rattle.std.proofs.lemmas.Result.{IfOk-weaker, IfErr-weaker}
use Rattle.sqlite.specs.Held.{state}
use Rattle.gd_live.specs.Seen.{at_desk}
use Rattle.gasday_live.specs.Runs.{ComesToEnd, Stops}
use Rattle.gasday_live.proofs.ServedLines.{chained}
use Rattle.gasday_live.proofs.lines.serve_lines.Goals as goal

pub returns-clause-ended : goal.returns-clause-ended
returns-clause-ended g c found begun =
    IfOk-weaker c.serve_reader.result _ _ (λ it h. chained (λ (text : List ℕ). ComesToEnd found (at_desk c.args.desk) text (state g.S.Store c.serve_reader.new.conn) (g.W.Write.contents c.args.writer.now) (g.W.Write.contents c.serve_reader.new.writer) it.finish it.has_fault)
    c.args.bytes.now _ (g.R.Read.remaining c.args.reader) c.chain-lines.ensures.bytes h) (c.serve_reader.ensures.ended found begun)

pub returns-clause-stopped : goal.returns-clause-stopped
returns-clause-stopped g c found begun =
    IfErr-weaker c.serve_reader.result _ _ (λ why h. chained (λ (text : List ℕ). Stops found (at_desk c.args.desk) text (state g.S.Store c.serve_reader.new.conn) (g.W.Write.contents c.args.writer.now) (g.W.Write.contents c.serve_reader.new.writer) why)
    c.args.bytes.now _ (g.R.Read.remaining c.args.reader) c.chain-lines.ensures.bytes h) (c.serve_reader.ensures.stopped found begun)
