use Rattle.std.proofs.Common.{ap, ◌∙◌}
use Rattle.std.specs.Prelude.{is_some}
use Rattle.std.specs.Map.{lookup}
use Rattle.gd_table.specs.Table.{Table}
use Rattle.gd_table.proofs.Places.{is_some-position}
use Rattle.gd_table.proofs.table.Table.get_index_of.Goals as goal

pub returns-clause-found : goal.returns-clause-found
returns-clause-found g c =
    let test = g.K.PartialEq.eq c.args.key in
    ap is_some (c.copied.ensures ∙ c.get.ensures.value ∙ c.self.invariant.placed c.args.key) ∙ is_some-position test c.self.inside.entries.items
    ∙ ap (λ (t : Table _ _). is_some (lookup test t.entries)) c.self.view_is
