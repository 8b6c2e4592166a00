use Rattle.std.proofs.lemmas.Slice.Eq.{slice_eq-Decides}
use Rattle.gd_certificate.proofs.Same.{tariffs_decided}
use Rattle.gd_certificate.proofs.same_prices.Goals as goal

pub returns : goal.returns
returns c = slice_eq-Decides tariffs_decided c.args.a.now c.args.b.now c.eq.result c.eq.ensures
