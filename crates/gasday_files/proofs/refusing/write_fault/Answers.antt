use Rattle.gasday_files.proofs.Writing.{faulted}
use Rattle.gasday_files.proofs.refusing.write_fault.Goals as goal

pub returns : goal.returns
returns g c = faulted c.args.fault c.of_fault.result _ _ _ c.of_fault.ensures c.write_answer.ensures
