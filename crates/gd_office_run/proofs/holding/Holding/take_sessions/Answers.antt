use Rattle.gd_office_run.proofs.Shares.{gains_sessions}
use Rattle.gd_office_run.proofs.holding.Holding.take_sessions.Goals as goal

pub returns : goal.returns
returns g c slots of =
    gains_sessions c.args.self.now c.distribute.new.holding c.distribute-2.new.holding c.distribute-3.new.holding c.args.rows.now
    c.args.sessions.items c.args.lists.items c.args.numbers.items slots of c.in_ok-distribute.ensures c.in_ok-distribute-2.ensures c.in_ok-distribute-3.ensures
