-- A question in the making.
use Rattle.std.specs.Prelude.{ℕ, List, [], ◌∷◌, ◌++◌, map}
use Rattle.std.specs.List.{range_with_len}
use Rattle.gd_rules.specs.Question.{Line}
use Rattle.gd_system.specs.Pipeline.{elements_of}
use Rattle.gd_question.specs.Posing.{Posed}
use Rattle.gd_question.specs.InForce.{in_force}
use Rattle.gd_machine.specs.Day.{Day}
use Rattle.gd_machine.specs.History.{History}
use Rattle.gd_machine.specs.Asking.{question, line_of}

-- The question with one line more.
abbrev pub with_line : Posed → Line → Posed
with_line q line = record q { asked = record q.asked { lines = q.asked.lines ++ line ∷ [] } }

-- The question with these capacities in force of its first elements.
abbrev pub with_capacities : Posed → List ℕ → Posed
with_capacities q capacities = record q { asked = record q.asked { elements = in_force (elements_of q.pipeline) capacities } }

-- The question of the current cycle as it is asked in this round, with so many of its lines.
abbrev pub asked_until : Day → History → ℕ → ℕ → Posed
asked_until day h round count = record (question day h) { round = round; asked = record (question day h).asked { lines = map (line_of day h) (range_with_len 0 count) } }
