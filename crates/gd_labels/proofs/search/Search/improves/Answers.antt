use Rattle.std.proofs.Common.{refl, ◌∙◌, ap}
use Rattle.std.specs.Ordering.{is_gt}
use Rattle.gd_labels.proofs.Operands.{end_label, compared}
use Rattle.gd_labels.proofs.search.Search.improves.Goals as goal

pub returns : goal.returns
returns g c =
    let r = c.requires in
    c.is_gt.ensures
    ∙ ap is_gt c.cmp.ensures
    ∙ compared r.search r.links c.args.i r.link _ _ c.reached-value.ensures
    (end_label r.search r.links c.args.i r.link g.C.Cost.meaning c.args.self.now.label.items refl _ _ c.index.ensures c.index-2.ensures)
