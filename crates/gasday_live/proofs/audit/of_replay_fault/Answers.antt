use Rattle.gasday_live.proofs.audit.of_replay_fault.Goals as goal

pub returns-in-Differs : goal.returns-in-Differs
returns-in-Differs c = rw c.in-Differs.is c.of_one.ensures

pub returns-in-Store : goal.returns-in-Store
returns-in-Store c = rw c.in-Store.is c.of_one-in-Store.ensures
