use Rattle.std.proofs.lemmas.Result.{IfOk-weaker, IfErr-weaker}
use Rattle.gasday_part.proofs.Openings.{opens_book, opens_none}
use Rattle.gasday_part.proofs.opened.open_book.Goals as goal

pub returns-in-Ok-clause-opened : goal.returns-in-Ok-clause-opened
returns-in-Ok-clause-opened c =
    IfOk-weaker c.open_text.result _ _ (λ book is. opens_book c.args.rows.now _ book c.in-Ok.ensures.values c.in-Ok.ensures.passed is) c.open_text.ensures.opened

pub returns-in-Ok-clause-refused : goal.returns-in-Ok-clause-refused
returns-in-Ok-clause-refused c =
    IfErr-weaker c.open_text.result _ _ (λ why is. opens_none c.args.rows.now _ why c.in-Ok.ensures.values is) c.open_text.ensures.refused

pub returns-in-Err-clause-refused : goal.returns-in-Err-clause-refused
returns-in-Err-clause-refused c = c.in-Err.ensures.values
