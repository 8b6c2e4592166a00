use Rattle.std.proofs.Common.{ap}
use Rattle.sqlite.specs.Held.{state}
use Rattle.gd_live.specs.Seen.{at_desk}
use Rattle.gasday_live.specs.Watching.{WatchedGives}
use Rattle.gasday_live.specs.declared.watched.Watched.{Watched}
use Rattle.gasday_live.proofs.ServedLines.{ended_seen, stopped_seen}
use Rattle.gasday_live.proofs.lines.serve_reader.Goals as goal

pub returns-in-Ok-clause-ended : goal.returns-in-Ok-clause-ended
returns-in-Ok-clause-ended g c found begun =
    ended_seen WatchedGives (λ (w : Watched g.row.V.Denot). at_desk w.desk) (λ (w : Watched g.row.V.Denot). w.has_fault) (λ s line t y w. w.gives) (λ s line t y w. w.fault) c.a_book_grows.ensures found c.new-watched.result (at_desk c.args.desk) (ap at_desk c.new-watched.ensures.desk)
    c.args.next (state g.S.Store c.args.conn.now) (state g.S.Store c.serve-ended.new.conn) (g.W.Write.contents c.args.writer.now) (g.W.Write.contents c.serve-ended.new.writer) begun c.serve-ended.ensures.clean
    c.serve-ended.new.desk c.in-Ok.finish c.has_fault-has_fault.result c.new-watched.ensures.none c.has_fault-has_fault.ensures (g.R.Read.remaining c.args.reader.now) c.in-Ok.ensures.ended

pub returns-in-Err-clause-stopped : goal.returns-in-Err-clause-stopped
returns-in-Err-clause-stopped g c found begun =
    stopped_seen WatchedGives (λ (w : Watched g.row.V.Denot). at_desk w.desk) (λ (w : Watched g.row.V.Denot). w.has_fault) (λ s line t y w. w.gives) (λ s line t y w. w.fault) c.a_book_grows.ensures found c.new-watched.result (at_desk c.args.desk) (ap at_desk c.new-watched.ensures.desk)
    c.args.next (state g.S.Store c.args.conn.now) (state g.S.Store c.serve-ended.new.conn) (g.W.Write.contents c.args.writer.now) (g.W.Write.contents c.serve-ended.new.writer) begun c.serve-ended.ensures.clean
    c.in-Err.why (g.R.Read.remaining c.args.reader.now) c.in-Err.ensures.stopped

pub returns-in-Ok-clause-clean : goal.returns-in-Ok-clause-clean
returns-in-Ok-clause-clean g c up = c.serve-ended.ensures.clean up

pub returns-in-Err-clause-clean : goal.returns-in-Err-clause-clean
returns-in-Err-clause-clean g c up = c.serve-ended.ensures.clean up
