-- Sets that fit a pipeline, and what a check of a set tells.
use Rattle.std.specs.Prelude.{◌≡◌, length}
use Rattle.gd_rules.specs.Cut.{IsCut}
use Rattle.gd_system.specs.Pipeline.{Pipeline}
use Rattle.gd_question.specs.Posing.{Posed}
use Rattle.gd_certificate.specs.declared.cut.CutFault.{CutFault}
use Rattle.gd_certificate.specs.declared.cut.CutFault.TheVariants.{Shape, NotCut}
use Rattle.gd_certificate.specs.Cutting.{Members, side_of}

-- One entry for each place, each point and each pool.
abbrev pub IsShaped : Pipeline → Members → Type 0
IsShaped p cut = (length cut.places ≡ length p.places) × (length cut.points ≡ length p.points) × (length cut.pools ≡ length p.pools)

-- More must leave the set than can.
abbrev pub Cuts : Posed → Members → Type 0
Cuts q cut = IsCut q.asked (side_of q.pipeline cut)

abbrev pub ExplainsCut : Posed → Members → CutFault → Type 0
ExplainsCut q cut Shape = IsShaped q.pipeline cut → ⊥
ExplainsCut q cut NotCut = IsShaped q.pipeline cut × (Cuts q cut → ⊥)
