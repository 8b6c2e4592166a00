use Rattle.std.proofs.Common.{◌∙◌, sym}
use Rattle.gd_live.proofs.Standing.{one_pushed, no_event, on_ok}
use Rattle.gd_live.proofs.conclusion.push_line.Goals as goal

pub returns : goal.returns
returns c =
    let is = rw (c.place.ensures, c.rows.ensures) at c.in-Ok.ensures in
    on_ok c.wait.result c.wait.ensures
    (one_pushed c.args.group.now c.wait.new.self c.args.line.now c.in-Ok.row c.in-Ok.place c.requires is (sym c.event_of.ensures ∙ no_event c.event_of.result c.is_some.result c.is_some.ensures c.if-is_some.false))
