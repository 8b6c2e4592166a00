use Rattle.sqlite.specs.Held.{state}
use Rattle.gasday_live.proofs.Asking.{tells_fault}
use Rattle.gasday_live.proofs.inquiry.ask_book.Goals as goal

pub returns-in-Err-clause-asked : goal.returns-in-Err-clause-asked
returns-in-Err-clause-asked g c clean =
    let was = state g.S.Store c.args.conn.now in
    tells_fault was c.args.inquiry _ _ _ c.in-Err.why c.of_replay_fault.result (c.in-Err.ensures.differs clean) c.of_replay_fault.ensures c.write_rows.ensures
