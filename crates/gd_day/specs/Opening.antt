-- What the book of a gas day is opened with, as the rows of a text say.
use Rattle.std.specs.Prelude.{ℕ, List, Result, Ok}
use Rattle.gd_rules.specs.Lines.{Key}
use Rattle.gd_contracts.specs.Holdings.{Holdings}
use Rattle.gd_text_part.specs.Dates.{YearMonthDay}
use Rattle.gd_text_part.specs.Rows.{◌>>=◌}
use Rattle.gd_text_part.specs.declared.fault.TextFault.{TextFault}
use Rattle.gd_text_part.specs.declared.row.Row.{Row}
use Rattle.gd_text.specs.Values.{pipeline_of}
use Rattle.gd_day.specs.Calls.{calls_of}
use Rattle.gd_day.specs.Carrying.{carry_of}
use Rattle.gd_day.specs.ContractRows.{contracts_on}
use Rattle.gd_day.specs.Groups.{checked_calls}
use Rattle.gd_day.specs.Heads.{head_of}

-- The date, the time zone of the clock and the name of the book; the pipeline and the contracts on it; and what lines carry
-- from the day before.
pub record Opened : Type 0 where
  pub date : YearMonthDay
  pub zone : List ℕ
  pub book : List ℕ
  pub holdings : Holdings
  pub carry : List (Key × ℕ)

-- The values are made one after the other, each from all rows; or the first refusal. The prices and the sets that stand
-- before the calls are tried too, so that a run of the calls meets no refusal of a row.
abbrev pub opened_of : List Row → Result Opened TextFault
opened_of rows = do
  pipeline ← pipeline_of rows
  holdings ← contracts_on rows pipeline
  head ← head_of rows
  carry ← carry_of rows
  made ← checked_calls holdings.pipeline (calls_of rows)
  Ok (record { date = head.0; zone = head.1; book = head.2; holdings = holdings; carry = carry })
