use Rattle.std.proofs.Common.{ap, sym, ◌∙◌}
use Rattle.std.specs.Prelude.{slice_get}
use Rattle.std.specs.Option.{option_map}
use Rattle.std.proofs.lemmas.Option.{slice_get-map}
use Rattle.gd_system.specs.Pipeline.{Pipeline}
use Rattle.gd_system.proofs.system.System.name.Goals as goal

pub returns-in-Segment : goal.returns-in-Segment
returns-in-Segment c =
    c.in-Segment.ensures.2 ∙ ap (λ (p : Pipeline). slice_get p.segments c.args.element.0) (sym c.self.view_is)
    ∙ slice_get-map (λ e. e.0) c.self.inside.segments.entries c.args.element.0
    ∙ ap (option_map (λ e. e.0)) (sym c.get_index.ensures ∙ c.unwrap.ensures)
