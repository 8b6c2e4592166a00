use Rattle.gd_archive_store.proofs.Cutting.{number_cut}
use Rattle.gd_archive_store.proofs.version.number_in.Goals as goal

pub returns-clause-cut_off : goal.returns-clause-cut_off
returns-clause-cut_off c = number_cut c.args.row.now c.get.result c.get.ensures.named c.get.ensures.kind
