use Rattle.std.proofs.Common.{ap, sym, ◌∙◌, Some}
use Rattle.std.specs.Map.{lookup}
use Rattle.gd_table.specs.Table.{Table, index_of}
use Rattle.gd_table.proofs.Places.{value_at}
use Rattle.gd_table.proofs.table.Table.get.Goals as goal

pub returns : goal.returns
returns g c =
    let eq = g.K.PartialEq.eq in
    let found = ap (λ (t : Table _ _). index_of eq t c.args.key) c.self.view_is ∙ sym c.in_ok-at.ensures.is in
    let value = value_at (eq c.args.key) c.index.result.now c.self.inside.entries.items c.in_ok-at.at found in
    ap (λ p. Some p.1) c.index.ensures ∙ sym value ∙ ap (λ (t : Table _ _). lookup (eq c.args.key) t.entries) c.self.view_is
