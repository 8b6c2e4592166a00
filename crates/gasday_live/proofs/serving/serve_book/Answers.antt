use Rattle.std.proofs.Common.{inl}
use Rattle.sqlite.specs.Held.{state}
use Rattle.gd_live.specs.Seen.{at_desk}
use Rattle.gasday_live.proofs.Running.{run_of, untaken}
use Rattle.gasday_live.proofs.serving.serve_book.Goals as goal

pub returns-in-Ok-clause-run : goal.returns-in-Ok-clause-run
returns-in-Ok-clause-run g c =
    let begun = c.in-Ok.ensures in
    let old = state g.S.Store c.args.conn.now in
    run_of (state g.S.Store) (g.R.Read.remaining c.args.reader) (g.R.Read.remaining c.begin.new.reader) (at_desk c.in-Ok.begun.book.desk) c.in-Ok.begun.book.calls c.in-Ok.begun.next old c.begin.new.conn c.serve_begun.new.conn c.in-Ok.begun.bytes.items
    (g.W.Write.contents c.args.writer.now) (g.W.Write.contents c.serve_begun.new.writer) c.serve_begun.result.status begun.begun (c.serve_begun.ensures.run old.now begun.begun.head begun.begun.begun)

pub returns-in-Err-clause-run : goal.returns-in-Err-clause-run
returns-in-Err-clause-run g c = inl (untaken c.of_no_run.result c.in-Err.why (g.R.Read.remaining c.args.reader) (state g.S.Store c.args.conn.now) (state g.S.Store c.begin.new.conn) (g.W.Write.contents c.args.writer.now) (g.W.Write.contents c.write_rows.new.writer) c.write_rows.result.status c.write_rows.ensures c.of_no_run.ensures c.in-Err.ensures.unbegun, c.begin.ensures.lost)
