use Rattle.gd_serving.proofs.turn.take_turn.Goals as goal

pub returns-in_default-clause-ended : goal.returns-in_default-clause-ended
returns-in_default-clause-ended g c e = cc
