-- What closes a step that mends an arc.
use Rattle.std.specs.Prelude.{ℤ, List}
use Rattle.gd_certificate.specs.Explained.{IsShaped, Cuts}
use Rattle.gd_network.specs.Beginning.{Laid}
use Rattle.gd_network.specs.declared.walks.Step.{Step}
use Rattle.gd_flow.specs.Search.{Closes}
use Rattle.gd_flow.specs.declared.mending.Way.{Way}
use Rattle.gd_flow.specs.declared.mending.Way.TheVariants.{Walk, Cut}

-- A closed walk with that step, or a cut.
abbrev pub IsWay : Laid → List ℤ → Step → Way → Type 0
IsWay l flow step (Walk walk) = Closes l.arcs flow step walk.items
IsWay l flow step (Cut cut) = IsShaped l.question.pipeline cut × Cuts l.question cut
