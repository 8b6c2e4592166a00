-- The phases of a small office.
use Rattle.std.specs.Prelude.{codes}
use Rattle.std.proofs.Common.{◌≡◌, ℕ, List, [], ◌∷◌, refl}
use Rattle.gd_text_part.specs.declared.row.EventRow.TheVariants as event
use Rattle.gd_text_part.specs.declared.row.OfficeRow.TheVariants as office
use Rattle.gd_text_part.specs.declared.row.PipelineRow.TheVariants as pipeline
use Rattle.gd_text_part.specs.declared.row.Row.{Row}
use Rattle.gd_text_part.specs.declared.row.Row.TheVariants as row
use Rattle.gasday_office.specs.Phases.{phases_of}

abbrev ship : List ℕ
ship = codes "SHIP"

abbrev post : ℕ → Row
post moment = row.Event (event.Post moment (codes "S1") 8)

abbrev begins : ℕ → Row
begins slot = row.Office (office.Session slot ship)

-- two sessions, the first with two calls and the second with none; a round without sessions; and a session that no desk
-- follows
are_phases : phases_of (row.Pipeline (pipeline.Segment (codes "S1") (codes "A") (codes "B") 100)
    ∷ begins 2 ∷ post 3 ∷ post 4 ∷ begins 1 ∷ row.Office (office.Desk 5) ∷ row.Office (office.Desk 6) ∷ begins 1 ∷ post 7 ∷ [])
    ≡ record {
      sessions = record { slot = 1; party = ship; calls = event.Post 3 (codes "S1") 8 ∷ event.Post 4 (codes "S1") 8 ∷ [] }
          ∷ record { slot = 0; party = ship; calls = [] } ∷ [];
      moment = 5;
    } ∷ record { sessions = []; moment = 6 } ∷ []
are_phases = refl
