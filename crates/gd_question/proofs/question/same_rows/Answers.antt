use Rattle.std.proofs.lemmas.Slice.Eq.{slice_eq-Decides}
use Rattle.gd_question.proofs.Same.{rows_decided}
use Rattle.gd_question.proofs.question.same_rows.Goals as goal

pub returns : goal.returns
returns c = slice_eq-Decides rows_decided c.args.a.now c.args.b.now c.eq.result c.eq.ensures
