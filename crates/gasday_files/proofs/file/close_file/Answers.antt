use Rattle.gasday_files.proofs.ClosedFiles.{copied, failed}
use Rattle.gasday_files.proofs.file.close_file.Goals as goal

pub returns-in-Ok : goal.returns-in-Ok
returns-in-Ok g c = copied g.D.Disk c.args.file c.in-Some.file c.in-Some.is c.in-Ok.files c.in-Ok.ensures.ok.0 c.in-Ok.ensures.ok.1 c.in-Ok.ensures.ok.2 c.in-Ok.ensures.copied

pub returns-in-Err : goal.returns-in-Err
returns-in-Err g c = failed g.D.Disk c.args.file c.in-Some.file c.in-Some.is c.in-Err.store c.in-Err.error c.in-Err.ensures.err
