use Rattle.gasday_live.proofs.output.tell_finish.Goals as goal

pub returns-in-Unfinished : goal.returns-in-Unfinished
returns-in-Unfinished g c = rw c.in-Unfinished.is c.tell_failure.ensures
