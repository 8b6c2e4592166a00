-- Rows behind the opening of a gas day: calls, and the rows that wait for them.
use Rattle.std.specs.Prelude.{◌≡◌, ◌≤◌, Bool, true, false}
use Rattle.gd_text_part.specs.Kinds.{stage_of}
use Rattle.gd_text_part.specs.Offices.{no_blocks, is_idle}
use Rattle.gd_text_part.specs.declared.kind.RowKind.TheVariants as kind
use Rattle.gd_text_part.specs.declared.order.Place.{Place}
use Rattle.gd_text_part.specs.declared.row.Row.{Row}
use Rattle.gd_text_part.specs.declared.row.Row.TheVariants as row

-- where calls of a gas day may stand and the rows that wait for them, and no row of its opening
pub record IsAmongCalls (place : Place) : Type 0 where
  pub late : stage_of kind.Sched ≤ place.stage
  pub headed : place.headed ≡ true
  pub blocks : place.blocks ≡ no_blocks
  pub idle : is_idle place.waiting ≡ true

abbrev pub is_call : Row → Bool
is_call (row.Event event) = true
is_call r = false

-- a call, or a row that waits for one
abbrev pub is_of_call : Row → Bool
is_of_call (row.Sched line quantity) = true
is_of_call (row.Price element class word spread) = true
is_of_call (row.Inside member name) = true
is_of_call (row.Event event) = true
is_of_call r = false
