use Rattle.std.proofs.lemmas.Bool.Decides.{Decides-eqb}
use Rattle.std.proofs.lemmas.Slice.Eq.{strip_prefix_is}
use Rattle.gd_serving.proofs.Fits.{begins_otherwise}
use Rattle.gd_serving.proofs.fitting.behind.Goals as goal

pub returns : goal.returns
returns c =
    begins_otherwise c.args.bytes.now c.args.front.now c.strip_prefix.result (strip_prefix_is Decides-eqb c.args.bytes.now c.args.front.now c.strip_prefix.result c.strip_prefix.ensures.cases)
