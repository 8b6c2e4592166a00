use Rattle.std.proofs.Common.{ap, sym, ◌∙◌}
use Rattle.std.specs.Prelude.{slice_get}
use Rattle.std.specs.Option.{option_map}
use Rattle.std.proofs.lemmas.Option.{slice_get-map}
use Rattle.gd_system.specs.Pipeline.{Pipeline}
use Rattle.gd_system.proofs.system.System.place_name.Goals as goal

pub returns : goal.returns
returns c =
    ap (λ (p : Pipeline). slice_get p.places c.args.place.0) (sym c.self.view_is)
    ∙ slice_get-map (λ e. e.0) c.self.inside.places.entries c.args.place.0
    ∙ ap (option_map (λ e. e.0)) (sym c.get_index.ensures ∙ c.unwrap.ensures)
