use Rattle.std.proofs.Common.{refl, ◌∙◌, ap₂}
use Rattle.gd_labels.proofs.Operands.{start_label, link_gain, label_small, gain_small}
use Rattle.gd_labels.proofs.search.Search.reached.Goals as goal

pub add-requires-clause-left : goal.add-requires-clause-left
add-requires-clause-left g c =
    let r = c.requires in
    label_small r.search r.links c.args.i r.link g.met.C.Cost.bounded r.small _
    (start_label r.search r.links c.args.i r.link g.C.Cost.meaning c.args.self.now.label.items refl _ _ c.index.ensures c.index-2.ensures)

pub add-requires-clause-right : goal.add-requires-clause-right
add-requires-clause-right g c =
    let r = c.requires in
    gain_small r.search r.links c.args.i r.link g.met.C.Cost.bounded _
    (link_gain r.search r.links c.args.i r.link g.C.Cost.meaning c.args.links.now.gain.items refl _ c.index-3.ensures)

pub returns : goal.returns
returns g c =
    let r = c.requires in
    c.add.ensures
    ∙ ap₂ g.C.Cost.scale.plus
    (start_label r.search r.links c.args.i r.link g.C.Cost.meaning c.args.self.now.label.items refl _ _ c.index.ensures c.index-2.ensures)
    (link_gain r.search r.links c.args.i r.link g.C.Cost.meaning c.args.links.now.gain.items refl _ c.index-3.ensures)
