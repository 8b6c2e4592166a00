use Rattle.gd_serving.specs.Seen.{seen}
use Rattle.gd_serving.proofs.Nothing.{no_call}
use Rattle.gd_serving.proofs.fitting.next_behind.Goals as goal

pub returns-then-is_nothing : goal.returns-then-is_nothing
returns-then-is_nothing c = no_call c.args.next (seen c.args.given.now) c.if-is_nothing.ensures
