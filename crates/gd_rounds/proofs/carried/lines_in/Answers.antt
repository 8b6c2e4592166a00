use Rattle.std.proofs.Common.{rules, ◌<◌, length}
use Rattle.gd_rounds.proofs.Numbers.{lines_then, lines_all}
use Rattle.gd_rounds.proofs.carried.lines_in.Goals as goal

pub events-preserved : goal.events-preserved
events-preserved c day legal =
    let low : c.events.event-index < length c.args.history.now = search rules in
    lines_then day c.args.history.now legal c.events.event-index c.event-item.result c.events.keys.items c.enter.new.keys.items low c.event-item.is (c.events.invariant day legal) c.in_ok-enter.ensures

pub returns : goal.returns
returns c day legal = lines_all day c.args.history.now c.events.event-index c.events.keys.items c.events-test.false (c.events.invariant day legal)
