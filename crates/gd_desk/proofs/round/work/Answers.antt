use Rattle.gd_desk.proofs.round.work.Goals as goal

pub returns-in-Ok : goal.returns-in-Ok
returns-in-Ok g c = (rw c.in-Some.is at c.in_ok-froze.ensures.froze, c.in-Ok.ensures)
