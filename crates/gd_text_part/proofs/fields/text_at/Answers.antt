use Rattle.std.proofs.Common.{rules}
use Rattle.std.proofs.lemmas.Str.{is_utf8-from_IsUtf8}
use Rattle.gd_text_part.proofs.Utf8Test.{fails}
use Rattle.gd_text_part.proofs.fields.text_at.Goals as goal

pub returns-in-Ok : goal.returns-in-Ok
returns-in-Ok c =
    let good = is_utf8-from_IsUtf8 _ c.in-Ok.ensures.cases.1 in
    search rules

pub returns-in-Err : goal.returns-in-Err
returns-in-Err c =
    let bad = fails _ c.in-Err.ensures.cases.0 in
    search rules
