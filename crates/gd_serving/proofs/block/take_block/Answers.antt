use Rattle.std.proofs.Common.{rules, ◌≡◌, ◌++◌}
use Rattle.gd_serving.specs.Seen.{seen}
use Rattle.gd_serving.proofs.Blocks.{begins, line_taken, block_taken, beginning_left}
use Rattle.gd_serving.proofs.block.take_block.Goals as goal

pub lines-init : goal.lines-init
lines-init g c = begins g.D.TakesLines.gives c.args.begun.now.items c.args.block.now c.args.desk.now (seen c.args.given.now)

pub lines-preserved : goal.lines-preserved
lines-preserved g c =
    let now = c.lines in
    let gave = c.in_ok-take_ended.ensures.gives in
    let none = c.in_ok-take_ended.ensures.begun in
    rw none (line_taken g.D.TakesLines.gives c.args.begun.now.items c.args.block.now c.args.desk.now (seen c.args.given.now) now.desk now.begun.items now.rest.now (seen now.given) now.invariant
    c.in-Some.end.now c.in-Some.behind.now c.take_ended.new.desk (seen c.take_ended.new.given) gave.0 c.in-Some.ensures.0 c.in-Some.ensures.1 gave.1 gave.2)

pub returns-clause-gives : goal.returns-clause-gives
returns-clause-gives g c =
    let now = c.lines in
    block_taken g.D.TakesLines.gives c.args.begun.now.items c.args.block.now c.args.desk.now (seen c.args.given.now) now.desk now.begun.items now.rest.now (seen now.given) now.invariant c.in_default.ensures

pub returns-clause-begun : goal.returns-clause-begun
returns-clause-begun g c =
    let now = c.lines in
    let more : c.extend_from_slice.new.self.items ≡ now.begun.items ++ now.rest.now = search rules in
    beginning_left g.D.TakesLines.gives c.args.begun.now.items c.args.block.now c.args.desk.now (seen c.args.given.now) now.desk now.begun.items now.rest.now (seen now.given) now.invariant c.in_default.ensures _ more
