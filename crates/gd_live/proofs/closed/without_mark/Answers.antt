use Rattle.std.proofs.Common.{◌∙◌}
use Rattle.gd_live.proofs.Marks.{marked, unmarked}
use Rattle.gd_live.proofs.closed.without_mark.Goals as goal

pub returns-in-Some : goal.returns-in-Some
returns-in-Some c = let it = c.in-Some.ensures.cases in it.1 ∙ marked c.args.text.now it.0

pub returns-in-None : goal.returns-in-None
returns-in-None c = unmarked c.args.text.now c.in-None.ensures.cases
