use Rattle.std.proofs.Common.{◌++◌, ◌∷◌, [], length-append, arith, ◌∙◌}
use Rattle.gd_journal_store.proofs.Settling.{all_part}
use Rattle.gd_journal_store.proofs.laws.kept_is_read.Goals as goal

pub returns-in-Ok-pieces : goal.returns-in-Ok-pieces
returns-in-Ok-pieces g c clean ps had is =
    let all = ps ++ (c.args.rows.now, c.args.told.now) ∷ [] in
    let settled = c.in-Ok.ensures.appended (c.pieces.ensures.clean clean) ps had is in
    let read = c.in-Ok-pieces.ensures.read clean all settled in
    read.0 ∙ all_part all c.args.number (omega (arith, is, length-append ps ((c.args.rows.now, c.args.told.now) ∷ [])))
