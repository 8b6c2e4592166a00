use Rattle.std.proofs.Common.{inl, inr}
use Rattle.sqlite.specs.Held.{state}
use Rattle.gd_live.specs.Seen.{at_desk}
use Rattle.gasday_live.specs.Runs.{found_at}
use Rattle.gasday_live.proofs.Running.{serves_so}
use Rattle.gasday_live.proofs.serving.serve_begun.Goals as goal

pub returns-then-not-tell-clause-run : goal.returns-then-not-tell-clause-run
returns-then-not-tell-clause-run g c had head begun =
    inl (record {
      written = rw c.told_nothing.ensures (rw c.opened.ensures.is at (c.tell.ensures.untold c.if-not-tell.true));
      status_is = c.told_nothing.ensures;
      keeps = λ up. let it = begun up in (it.0, it.1, it.2);
    })

pub returns-clause-run : goal.returns-clause-run
returns-clause-run g c had head begun =
    let book = c.args.begun.book in
    let found = found_at had head book.calls in
    inr (record {
      told = g.W.Write.contents c.tell.new.writer;
      opened = rw c.opened.ensures.is at (c.tell.ensures.told c.if-not-tell.false);
      holds = c.opened.ensures.holds;
      serves = serves_so found (at_desk book.desk) (state g.S.Store c.serve_lines-ended.new.conn) (g.W.Write.contents c.tell.new.writer) (g.W.Write.contents c.serve_lines-ended.new.writer) (g.W.Write.contents c.tell_end.new.writer) c.args.begun.bytes.items c.tell_end.result.status
          c.serve_lines-ended.result (g.R.Read.remaining c.args.reader) (rw c.as_slice.ensures.value at (c.serve_lines-ended.ensures.ended found begun)) (rw c.as_slice.ensures.value at (c.serve_lines-ended.ensures.stopped found begun)) c.tell_end.ensures.ended c.tell_end.ensures.failed;
    })
