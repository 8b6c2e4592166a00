-- What a repair answers.
use Rattle.std.specs.Prelude.{◌≡◌, length}
use Rattle.gd_question.specs.Posing.{Posed}
use Rattle.gd_certificate.specs.Explained.{IsShaped, Cuts}
use Rattle.gd_network.specs.Arcs.{Net}
use Rattle.gd_network.specs.Flow.{IsCirculation, IsWithin}
use Rattle.gd_flow.specs.declared.mending.Repaired.{Repaired}
use Rattle.gd_flow.specs.declared.mending.Repaired.TheVariants.{Feasible, Impossible}

-- A flow of this network that balances within its bounds, or a set out of which more must flow than can.
abbrev pub Repairs : Posed → Net → Repaired → Type 0
Repairs q n (Feasible f) =
    (f.question ≡ q) × (f.arcs ≡ n) × (length f.flow ≡ length n) × IsCirculation n f.flow
    × IsWithin n f.flow
Repairs q n (Impossible cut) = IsShaped q.pipeline cut × Cuts q cut
