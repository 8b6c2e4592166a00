use Rattle.gd_machine.proofs.Sound.{sound}
use Rattle.gd_machine.proofs.laws.every_day_is_sound.Goals as goal

pub returns : goal.returns
returns c = λ day h is_day legal pass. sound day is_day h legal pass
