-- Which events of a history are calls of sessions.
use Rattle.std.specs.Prelude.{ℕ, Bool, true, false}
use Rattle.std.specs.List.{count_by}
use Rattle.gd_rules.specs.Schedule.{quantity}
use Rattle.gd_machine.specs.declared.event.Event.{Event}
use Rattle.gd_machine.specs.declared.event.Event.TheVariants.{Nominate, Respond, PostCapacity}
use Rattle.gd_machine.specs.History.{History}

-- A nomination, a response or a capacity is the call of a session.
abbrev pub is_session_call : Event → Bool
is_session_call (Nominate moment party key quantity) = true
is_session_call (Respond moment party line end quantity) = true
is_session_call (PostCapacity moment element capacity) = true
is_session_call event = false

abbrev pub session_calls : History → ℕ
session_calls h = count_by (λ p. is_session_call p.0) h
