-- Whether the prices and the set that stand before each call can be made.
use Rattle.std.specs.Prelude.{ℕ, List, [], ◌∷◌, Result, Ok, Err}
use Rattle.std.specs.Result.{IsOk}
use Rattle.std.specs.List.{AllByRecursion}
use Rattle.gd_system.specs.Pipeline.{Pipeline}
use Rattle.gd_text_part.specs.Rows.{◌>>=◌}
use Rattle.gd_text_part.specs.declared.fault.TextFault.{TextFault}
use Rattle.gd_text_part.specs.declared.row.Row.{Row}
use Rattle.gd_text.specs.Members.{members_from, members_of}
use Rattle.gd_text.specs.Prices.{prices_from, prices_of}
use Rattle.gd_day.specs.Calls.{Call}

-- That a value can be made, whatever it is, or the refusal.
abbrev pub checked : {X E : Type 0} → Result X E → Result (Unit {0}) E
checked (Ok x) = Ok tt
checked (Err e) = Err e

-- The prices of a group are made, then its set, where n is the number of its first row; or the first refusal.
abbrev pub checked_group : Pipeline → ℕ → List Row → Result (Unit {0}) TextFault
checked_group p n group = checked (prices_from n group p) >>= λ made. checked (members_from n group p)

-- The same of the group of each call in turn.
abbrev pub checked_calls : Pipeline → List Call → Result (Unit {0}) TextFault
checked_calls p [] = Ok tt
checked_calls p (c ∷ calls) = checked_group p c.first c.group >>= λ made. checked_calls p calls

-- The prices and the set of a group can be made.
pub record Passes (p : Pipeline) (group : List Row) : Type 0 where
  pub prices : IsOk (prices_of group p)
  pub members : IsOk (members_of group p)

abbrev pub AllPass : Pipeline → List Call → Type 0
AllPass p calls = AllByRecursion (λ (c : Call). Passes p c.group) calls
