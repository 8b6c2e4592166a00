use Rattle.std.proofs.lemmas.Slice.Eq.{slice_eq-Decides}
use Rattle.gd_board.proofs.Same.{lines_decided}
use Rattle.gd_board.proofs.posting.same_lines.Goals as goal

pub returns : goal.returns
returns c = slice_eq-Decides lines_decided c.args.a.now c.args.b.now c.eq.result c.eq.ensures
