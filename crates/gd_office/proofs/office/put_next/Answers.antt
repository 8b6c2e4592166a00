use Rattle.std.proofs.Common.{rules}
use Rattle.gd_office.proofs.Numbering.{numbered_more}
use Rattle.gd_office.proofs.office.put_next.Goals as goal

pub returns-clause-numbered : goal.returns-clause-numbered
returns-clause-numbered g c =
    rw c.put.ensures.items (numbered_more c.args.slots.now.items c.new.result c.requires.numbered (search rules))

pub new-requires : goal.new-requires
new-requires g c = rw c.len.ensures c.requires.day
