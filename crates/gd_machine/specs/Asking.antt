-- What is nominated and confirmed on a line, and the question of the current cycle and round.
use Rattle.std.specs.Prelude.{ℕ, ◌-◌, ◌==◌, nat_lt, List, length, map, filter, sum_by, Option, Some, None, Result, Ok, Err, if◌then◌else◌}
use Rattle.std.specs.List.{filter_map, range_with_len}
use Rattle.std.specs.Result.{result_unwrap_or}
use Rattle.gd_rules.specs.Question.{Line, no_line}
use Rattle.gd_rules.specs.Schedule.{quantity}
use Rattle.gd_rules.specs.GasDay as gas_day
use Rattle.gd_rules.specs.Bounds as bounds
use Rattle.gd_rules.specs.Lines.{Key, Nomination, until, of_line, last_quantity, lines_of, line_key}
use Rattle.gd_units.specs.declared.service.End.TheVariants.{Origin, Dest}
use Rattle.gd_system.specs.Pipeline.{Pipeline, elements_of}
use Rattle.gd_system.specs.Route.{ends_of}
use Rattle.gd_system.specs.declared.part.Ends.{Ends}
use Rattle.gd_system.specs.declared.RouteFault.{RouteFault}
use Rattle.gd_contracts.specs.Classes.{class_answer}
use Rattle.gd_lines.specs.Numbering.{nomination}
use Rattle.gd_question.specs.Posing.{Posed, line_between}
use Rattle.gd_machine.specs.declared.event.Event.{Event}
use Rattle.gd_machine.specs.declared.event.Event.TheVariants.{Nominate}
use Rattle.gd_machine.specs.declared.reply.Reply.{Reply}
use Rattle.gd_machine.specs.declared.reply.Reply.TheVariants.{Accepted}
use Rattle.gd_machine.specs.Day.{Day, carried, length_of}
use Rattle.gd_machine.specs.History.{History, cycle_of, round_of, is_waived, response_of, elements_in_force, scheduled}

-- ---- nominations

-- The class of a line under its contract.
abbrev pub class_in : Day → Key → ℕ
class_in day key = result_unwrap_or (class_answer day.holdings key.contract key.origin key.dest) 0

abbrev pub nomination_of : Day → Event × Reply → Option Nomination
nomination_of day (Nominate moment party key quantity, Accepted number cycle line) = Some (nomination key cycle (class_in day key) quantity)
nomination_of day p = None

-- The accepted nominations, each with the cycle that was told.
abbrev pub nominations : Day → History → List Nomination
nominations day h = filter_map (nomination_of day) h

-- How many nominations are accepted, and their dekatherms together.
abbrev pub accepted : Day → History → ℕ × ℕ
accepted day h = (length (nominations day h), sum_by (λ n. n.quantity) (nominations day h))

-- The nominations that count in the current cycle: those for it and for the former ones. A question is made of these and no others.
abbrev pub counted : Day → History → List Nomination
counted day h = until (cycle_of h) (nominations day h)

-- How many lines they have.
abbrev pub line_count : Day → History → ℕ
line_count day h = length (lines_of (counted day h))

-- The key of a line by number.
abbrev pub key_of : Day → History → ℕ → Key
key_of day h line = line_key (counted day h) line

-- ---- a line in the current cycle

-- The schedule in effect before this cycle, at Timely the quantity carried over.
abbrev pub former_of : Day → History → ℕ → ℕ
former_of day h line = if cycle_of h == 1 then carried day (key_of day h line) else scheduled h line (cycle_of h - 1)

-- What has flowed when this cycle takes effect.
abbrev pub elapsed_of : Day → History → ℕ → ℕ
elapsed_of day h line = bounds.elapsed gas_day.hours_over (length_of day) (scheduled h line) (cycle_of h)

-- What is nominated last of these.
abbrev pub nominated_of : Day → History → ℕ → ℕ
nominated_of day h line = last_quantity (of_line (key_of day h line) (counted day h))

abbrev pub class_of : Day → History → ℕ → ℕ
class_of day h line = class_in day (key_of day h line)

abbrev pub confirmed_of : Day → History → ℕ → ℕ
confirmed_of day h line =
    bounds.confirmed (cycle_of h) (nominated_of day h line) (response_of h line Origin) (response_of h line Dest) (former_of day h line) (elapsed_of day h line)

abbrev pub floor_of : Day → History → ℕ → ℕ
floor_of day h line =
    bounds.line_floor (cycle_of h) (class_of day h line) (is_waived h line) (elapsed_of day h line) (former_of day h line) (confirmed_of day h line)

abbrev pub line_over : Pipeline → Result Ends RouteFault → ℕ → ℕ → ℕ → Line
line_over p (Ok ends) class floor ceiling = line_between p ends class floor ceiling
line_over p (Err fault) class floor ceiling = no_line

-- The line as it is asked: over its route, between its floor and what is confirmed.
abbrev pub line_of : Day → History → ℕ → Line
line_of day h line =
    line_over day.holdings.pipeline (ends_of day.holdings.pipeline (key_of day h line).origin (key_of day h line).dest) (class_of day h line) (floor_of day h line) (confirmed_of day h line)

-- ---- the question

-- The question of the current cycle and round: the capacities in force, and the lines that are nominated so far.
abbrev pub question : Day → History → Posed
question day h = record {
  pipeline = day.holdings.pipeline;
  asked = record { elements = elements_in_force (elements_of day.holdings.pipeline) h; lines = map (line_of day h) (range_with_len 0 (line_count day h)) };
  book = day.name;
  cycle = cycle_of h;
  round = round_of h;
}

-- By how much this schedule bumps a line of the current cycle.
abbrev pub bumped_by : Day → History → List ℕ → ℕ → ℕ
bumped_by day h schedule line = bounds.bumped (cycle_of h) (former_of day h line) (confirmed_of day h line) (quantity schedule line)

-- The lines that this schedule bumps, in order, each with by how much.
abbrev pub bumped_lines : Day → History → List ℕ → List (ℕ × ℕ)
bumped_lines day h schedule = filter (λ b. nat_lt 0 b.1) (map (λ line. (line, bumped_by day h schedule line)) (range_with_len 0 (line_count day h)))
