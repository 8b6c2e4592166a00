use Rattle.std.proofs.Common.{sym, ap, ◌∙◌}
use Rattle.std.proofs.lemmas.List.{get_or-map}
use Rattle.gd_certificate.proofs.margin.price_of.Goals as goal

pub returns : goal.returns
returns g c = sym (get_or-map g.C.Cost.meaning c.args.prices.now c.args.at c.index-prices-at.result g.C.Cost.scale.none c.requires ∙ ap g.C.Cost.meaning (sym c.index-prices-at.is))
