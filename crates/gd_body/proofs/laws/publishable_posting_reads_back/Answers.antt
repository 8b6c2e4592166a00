use Rattle.gd_body.proofs.ReadBack.{reads_back}
use Rattle.gd_body.proofs.Smallest.{small_posting, small_is_publishable}
use Rattle.gd_body.proofs.laws.publishable_posting_reads_back.Goals as goal

pub returns : goal.returns
returns c = record { read_back = reads_back; never_damaged = λ p publishable refused. refused (reads_back p publishable); some = (small_posting, small_is_publishable) }
