use Rattle.gasday_files.proofs.file.NamedFile.tried.Goals as goal

pub returns-in-Ok-clause-ok : goal.returns-in-Ok-clause-ok
returns-in-Ok-clause-ok g c = (
  c.in-Ok.ensures.fresh,
  λ clean. record {
    opened = c.in-Ok.ensures.opened clean;
    holds = c.in-Ok.ensures.found clean;
    plain = c.in-Ok.ensures.sums clean;
    guarded = c.in-Ok.ensures.guarded clean;
  },
)
