-- What a gas day carries over to the next.
use Rattle.std.specs.Prelude.{ℕ, ◌-◌, List, [], length, get_or, map}
use Rattle.std.specs.List.{range_with_len}
use Rattle.gd_rules.specs.Lines.{Key, lines_of, line_key}
use Rattle.gd_machine.specs.Day.{Day}
use Rattle.gd_machine.specs.History.{History, cycle_of, scheduled}
use Rattle.gd_machine.specs.Asking.{nominations}
use Rattle.gd_replies.specs.declared.reply.Reply.{Reply}
use Rattle.gd_replies.specs.declared.reply.Reply.TheVariants as reply

-- of the schedules in effect by cycle, the last
abbrev pub latest : List (List ℕ) → List ℕ
latest schedules = get_or schedules (length schedules - 1) []

-- what a line is scheduled by what was published last, and 0 where nothing was
abbrev pub in_effect : History → ℕ → ℕ
in_effect h line = scheduled h line (cycle_of h - 1)

abbrev pub carry_row : Key → ℕ → Reply
carry_row key quantity =
    reply.Carry (record { contract = key.contract; «package» = key.«package»; origin = key.origin; dest = key.dest; quantity = quantity })

-- each line, in the order of their numbers, with what it is scheduled
abbrev pub carry_rows : Day → History → List Reply
carry_rows day h =
    map (λ line. carry_row (line_key (nominations day h) line) (in_effect h line)) (range_with_len 0 (length (lines_of (nominations day h))))
