use Rattle.gasday_files.proofs.copied.opened.Goals as goal

pub returns-in-Ok-clause-copy : goal.returns-in-Ok-clause-copy
returns-in-Ok-clause-copy c = (c.in-Ok.ensures.fresh, λ clean. (c.in-Ok.ensures.opened clean, c.in-Ok.ensures.guarded clean, (c.args.files, c.in-Ok.ensures.found clean)))
