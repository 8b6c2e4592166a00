use Rattle.gd_live.proofs.desk.Desk.new.Goals as goal

pub returns : goal.returns
returns c = c.new.ensures
