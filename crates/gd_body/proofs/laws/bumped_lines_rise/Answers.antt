use Rattle.std.proofs.Common.{length}
use Rattle.gd_body.proofs.Rising.{rises_decides, said_rises}
use Rattle.gd_body.proofs.laws.bumped_lines_rise.Goals as goal

pub returns : goal.returns
returns c = record {
  lines = λ text p said. ((rises_decides (length p.question.asked.lines) p.bumped).0 (said_rises text p said)).0;
  rising = λ text p said. ((rises_decides (length p.question.asked.lines) p.bumped).0 (said_rises text p said)).1;
}
