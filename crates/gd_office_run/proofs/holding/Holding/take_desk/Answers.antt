use Rattle.gd_office_run.proofs.Shares.{gains_freeze, gains_close}
use Rattle.gd_office_run.proofs.holding.Holding.take_desk.Goals as goal

pub returns-in_ok-give-2 : goal.returns-in_ok-give-2
returns-in_ok-give-2 g c slots of =
    gains_close c.args.self.now c.give.new.holding c.give-in-Some.new.holding c.args.slot c.args.froze c.in-Some.closed c.args.closed slots c.in-Some.is of
    c.in_ok-give.ensures c.in_ok-give-2.ensures

pub returns-in_default : goal.returns-in_default
returns-in_default g c slots of =
    gains_freeze c.args.self.now c.give.new.holding c.args.slot c.args.froze c.args.closed slots c.in_default.is of c.in_ok-give.ensures
