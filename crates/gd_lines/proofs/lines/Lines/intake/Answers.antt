use Rattle.std.proofs.Common.{◌==◌, ◌∙◌, ap, map, filter}
use Rattle.gd_rules.specs.Lists.{numbered_intake}
use Rattle.gd_table.specs.Table.{keys as keys_in}
use Rattle.gd_lines.specs.LinesInside.{accepted_of}
use Rattle.gd_lines.proofs.Accept.{row_of, numbered_row, taken, over_ok}
use Rattle.gd_lines.proofs.lines.Lines.intake.Goals as goal

pub returns : goal.returns
returns c =
    let l = c.self.inside in
    over_ok c.taken.result _ _
    (λ rows e.
    ap (map numbered_row) (e ∙ ap (λ all. map row_of (filter (λ a. a.cycle == c.args.cycle) all)) c.deref.ensures.value)
    ∙ taken (accepted_of l) (keys_in l.keys) l.accepted.items c.args.cycle c.self.invariant.keyed c.self.invariant.distinct c.self.invariant.within
    ∙ ap (λ ns. numbered_intake ns c.args.cycle) c.self.view_is)
    c.taken.ensures
