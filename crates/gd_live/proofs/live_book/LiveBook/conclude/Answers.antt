use Rattle.std.proofs.Common.{length, ap, arith}
use Rattle.gd_live.proofs.live_book.LiveBook.conclude.Goals as goal

pub returns-clause-grew : goal.returns-clause-grew
returns-clause-grew g c ok same = omega (arith, ap length same)
