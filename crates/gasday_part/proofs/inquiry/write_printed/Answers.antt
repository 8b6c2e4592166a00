use Rattle.gasday_part.specs.Answers.{no_memory, one}
use Rattle.gasday_part.proofs.inquiry.write_printed.Goals as goal

pub returns-clause-short : goal.returns-clause-short
returns-clause-short g c is = c.write_rows.ensures (one no_memory 2) tt
