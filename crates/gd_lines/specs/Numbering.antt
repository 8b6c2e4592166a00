-- Which number the line of a nomination gets.
use Rattle.std.specs.Prelude.{ℕ, nat_le, List, length, Option, Some, None, Result, Ok, Err, if◌then◌else◌}
use Rattle.gd_rules.specs.Lines.{Key, Nomination, lines_of, find}
use Rattle.gd_rules.specs.Limits.{most_lines}
use Rattle.gd_lines.specs.declared.fault.LinesFault.{LinesFault}
use Rattle.gd_lines.specs.declared.fault.LinesFault.TheVariants.{TooManyLines}

abbrev pub number_within : ℕ → Option ℕ → Result ℕ LinesFault
number_within count (Some line) = Ok line
number_within count None = if nat_le most_lines count then Err TooManyLines else Ok count

-- A line that is there keeps its number, and a new one gets the next, if there are fewer lines than may be.
abbrev pub numbered : List Nomination → Key → Result ℕ LinesFault
numbered ns key = number_within (length (lines_of ns)) (find ns key)

abbrev pub nomination : Key → ℕ → ℕ → ℕ → Nomination
nomination key cycle class quantity = record { key = key; cycle = cycle; class = class; quantity = quantity }
