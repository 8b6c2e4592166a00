-- The calls of a small office.
use Rattle.std.specs.Prelude.{codes}
use Rattle.std.proofs.Common.{◌≡◌, ℕ, List, [], ◌∷◌, refl}
use Rattle.gd_rules.specs.Lines.{Key}
use Rattle.gd_rules.specs.Question.Element.{Segment as segment}
use Rattle.gd_units.specs.declared.service.End.TheVariants.{Dest}
use Rattle.gd_system.specs.Pipeline.{Pipeline}
use Rattle.gd_text_part.specs.declared.row.EventRow.TheVariants as row
use Rattle.gasday_office.specs.Phases.{Round}
use Rattle.gd_office_part.specs.declared.call.Call.TheVariants as call
use Rattle.gasday_office.specs.Calls.{AskedPhase, asked_phase}

abbrev ship : List ℕ
ship = codes "SHIP"

abbrev key : Key
key = record { contract = codes "INT"; «package» = codes "P"; origin = codes "R1"; dest = codes "D1" }

abbrev north : Pipeline
north = record {
  places = codes "A" ∷ codes "B" ∷ [];
  segments = codes "S2" ∷ [];
  tree = segment 0 1 100 ∷ [];
  points = [];
  pools = [];
}

abbrev south : Pipeline
south = record {
  places = codes "A" ∷ codes "B" ∷ codes "C" ∷ [];
  segments = codes "S1" ∷ codes "S2" ∷ [];
  tree = segment 0 1 100 ∷ segment 1 2 80 ∷ [];
  points = [];
  pools = [];
}

-- a session with the second slot, one of whose rows is no call; one with the first slot, whose pipeline numbers its elements
-- otherwise and has no S1; and one with a slot that isn't there
abbrev said : Round
said = record {
  sessions = record {
    slot = 1;
    party = ship;
    calls = row.Nominate 3 (codes "OTHER") key 20 ∷ row.Respond 4 ship 1 Dest 10 ∷ row.Post 5 (codes "S2") 60 ∷ row.Freeze 6 ∷ [];
  } ∷ record { slot = 0; party = ship; calls = row.Post 7 (codes "S2") 8 ∷ row.Post 7 (codes "S1") 8 ∷ [] }
      ∷ record { slot = 2; party = ship; calls = row.Post 8 (codes "S1") 9 ∷ [] } ∷ [];
  moment = 9;
}

abbrev made : AskedPhase
made = record {
  sessions = record {
    slot = 1;
    party = ship;
    calls = call.Nominate 3 key 20 ∷ call.Respond 4 0 Dest 10 ∷ call.PostCapacity 5 (record { 0 = 1 }) 60 ∷ [];
  } ∷ record {
    slot = 0;
    party = ship;
    calls = call.PostCapacity 7 (record { 0 = 0 }) 8 ∷ call.PostCapacity 7 (record { 0 = 1 }) 8 ∷ [];
  }
      ∷ record { slot = 2; party = ship; calls = [] } ∷ [];
  moment = 9;
}

are_calls : asked_phase (north ∷ south ∷ []) said ≡ made
are_calls = refl
