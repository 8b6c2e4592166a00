use Rattle.gd_serving.proofs.Nothing.{no_bytes, some_bytes}
use Rattle.gd_serving.proofs.serving.finish_of.Goals as goal

pub returns-then-is_empty : goal.returns-then-is_empty
returns-then-is_empty c = no_bytes c.args.begun.now c.if-is_empty.ensures

pub returns : goal.returns
returns c = some_bytes c.args.begun.now c.if-is_empty.ensures
