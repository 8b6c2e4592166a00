-- What may be added to a question, and what it is then.
use Rattle.std.specs.Prelude.{ℕ, ◌==◌, ◌||◌, nat_le, nat_lt, List, [], ◌∷◌, ◌++◌, length, set, get_or, Option, Some, None, if◌then◌else◌, Result, Ok, Err}
use Rattle.gd_rules.specs.Question.Element.{Pool as pool}
use Rattle.gd_rules.specs.Limits.{classes, most_lines}
use Rattle.gd_system.specs.Pipeline.{Pipeline, elements_of}
use Rattle.gd_system.specs.Route.{ends_of}
use Rattle.gd_system.specs.declared.part.Ends.{Ends}
use Rattle.gd_system.specs.declared.RouteFault.{RouteFault}
use Rattle.gd_question.specs.declared.fault.CapacityFault.{CapacityFault}
use Rattle.gd_question.specs.declared.fault.CapacityFault.TheVariants.{UnknownElement}
use Rattle.gd_question.specs.declared.fault.LineFault.{LineFault}
use Rattle.gd_question.specs.declared.fault.LineFault.TheVariants.{Route, FloorAboveCeiling, BadClass, TooMany}
use Rattle.gd_question.specs.InForce.{with_limit, limit_fault}
use Rattle.gd_question.specs.Posing.{Posed, line_between}

-- No line is there yet, and the capacities in force are the pipeline's own.
abbrev pub posed : Pipeline → List ℕ → ℕ → ℕ → Posed
posed p book cycle round = record { pipeline = p; asked = record { elements = elements_of p; lines = [] }; book = book; cycle = cycle; round = round }

-- Why the element of this number can't have another capacity, or none.
abbrev pub capacity_fault : Posed → ℕ → Option CapacityFault
capacity_fault q e = if nat_lt e (length q.asked.elements) then limit_fault (get_or q.asked.elements e (pool 0)) else Some UnknownElement

-- The question with this capacity in force at the element of this number.
abbrev pub with_capacity : Posed → ℕ → ℕ → Posed
with_capacity q e capacity = record q { asked = record q.asked { elements = set q.asked.elements e (with_limit (get_or q.asked.elements e (pool 0)) capacity) } }

abbrev pub line_within : ℕ → ℕ → ℕ → ℕ → Result Ends RouteFault → Result Ends LineFault
line_within count class floor ceiling (Err fault) = Err (Route fault)
line_within count class floor ceiling (Ok ends) =
    if nat_lt ceiling floor then Err FloorAboveCeiling
    else if (class == 0) || nat_lt classes class then Err BadClass
    else if nat_le most_lines count then Err TooMany
    else Ok ends

-- The first refusal of a line, or its ends.
abbrev pub checked_line : Posed → List ℕ → List ℕ → ℕ → ℕ → ℕ → Result Ends LineFault
checked_line q origin dest class floor ceiling = line_within (length q.asked.lines) class floor ceiling (ends_of q.pipeline origin dest)

-- The question with one line more.
abbrev pub with_line : Posed → Ends → ℕ → ℕ → ℕ → Posed
with_line q ends class floor ceiling = record q { asked = record q.asked { lines = q.asked.lines ++ line_between q.pipeline ends class floor ceiling ∷ [] } }

abbrev pub changed : Option CapacityFault → Posed → Result Posed CapacityFault
changed None q = Ok q
changed (Some fault) q = Err fault

-- The question after another capacity is set, or the first refusal.
abbrev pub after_capacity : Posed → ℕ → ℕ → Result Posed CapacityFault
after_capacity q e capacity = changed (capacity_fault q e) (with_capacity q e capacity)

abbrev pub lengthened : (Ends → Posed) → Result Ends LineFault → Result Posed LineFault
lengthened f (Ok ends) = Ok (f ends)
lengthened f (Err fault) = Err fault

-- The question after a line is added, or the first refusal.
abbrev pub after_line : Posed → List ℕ → List ℕ → ℕ → ℕ → ℕ → Result Posed LineFault
after_line q origin dest class floor ceiling = lengthened (λ ends. with_line q ends class floor ceiling) (checked_line q origin dest class floor ceiling)
