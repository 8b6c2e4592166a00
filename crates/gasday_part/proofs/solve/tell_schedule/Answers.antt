use Rattle.std.proofs.Common.{inl, map}
use Rattle.gd_cost.specs.Parts.{class_words}
use Rattle.gasday_part.proofs.solve.tell_schedule.Goals as goal

pub returns : goal.returns
returns c =
    let given = c.requires in
    inl (c.args.schedule.now, map class_words c.args.prices.now, (given.allowed, given.priced, given.best), rw c.in_ok-replies.ensures at c.whole.ensures)
