use Rattle.gasday_archive.proofs.keeps.try_keep.Goals as goal

pub returns-in-Err-Kept-clause-tried : goal.returns-in-Err-Kept-clause-tried
returns-in-Err-Kept-clause-tried g c clean =
    (c.keep.new.conn, rw c.in-Err-Kept.field-0-is at (c.in-Err-Kept.ensures.kept (c.compared.ensures.clean clean)), c.compared.ensures.compared clean)
