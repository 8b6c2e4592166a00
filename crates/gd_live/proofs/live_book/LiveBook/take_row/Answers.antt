use Rattle.gd_live.specs.Seen.{stand_of}
use Rattle.std.proofs.Common.{inl}
use Rattle.gd_serving.specs.Seen.{seen}
use Rattle.gd_live.proofs.Taking.{refused_as, found}
use Rattle.gd_live.proofs.live_book.LiveBook.take_row.Goals as goal

pub returns-in-Err : goal.returns-in-Err
returns-in-Err g c =
    let fault = c.in-Err.fault in
    refused_as c.refuse_as.result (stand_of c.args.self.now) (stand_of c.refuse_as.new.self) c.args.line.now (seen c.args.given.now) (seen c.refuse_as.new.given) fault
    (λ some. let it = found fault _ some (rw c.place.ensures at c.in-Err.ensures) in inl (it.0, it.1, it.2))
    c.refuse_as.ensures.memory c.refuse_as.ensures.stand c.refuse_as.ensures.given
