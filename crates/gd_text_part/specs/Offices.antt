-- The blocks of an office's text, each of which is a slot, and the phases of its sessions, each of which a `desk` row ends.
use Rattle.std.specs.Prelude.{ℕ, ◌+◌, ◌-◌, Bool, true, false, ◌==◌, ◌&&◌, ◌||◌, not, nat_le, nat_lt, if◌then◌else◌}
use Rattle.std.specs.Prelude.{List, replicate, get_or, set, Option, Some, None, Result, Ok, Err}
use Rattle.gd_text_part.specs.Kinds.{stage_of, is_of_block, is_of_session, is_segment}
use Rattle.gd_text_part.specs.declared.blocks.Blocks.{Blocks}
use Rattle.gd_text_part.specs.declared.blocks.TheConstants.{MAX_BLOCKS, MAX_SESSIONS_A_SLOT}
use Rattle.gd_text_part.specs.declared.fault.Cause.{Cause}
use Rattle.gd_text_part.specs.declared.fault.Cause.TheVariants as cause
use Rattle.gd_text_part.specs.declared.kind.RowKind.{RowKind}
use Rattle.gd_text_part.specs.declared.kind.RowKind.TheVariants as kind
use Rattle.gd_text_part.specs.declared.kind.Form.{Form}
use Rattle.gd_text_part.specs.declared.kind.Form.TheVariants as form
use Rattle.gd_text_part.specs.declared.row.Row.{Row}
use Rattle.gd_text_part.specs.declared.row.Row.TheVariants as row
use Rattle.gd_text_part.specs.declared.row.OfficeRow.TheVariants as office
use Rattle.gd_text_part.specs.declared.waiting.TheConstants.{MAX_SESSIONS_A_PHASE}
use Rattle.gd_text_part.specs.declared.waiting.Waiting.{Waiting}
use Rattle.gd_text_part.specs.declared.waiting.Waiting.TheVariants as waiting

abbrev pub no_blocks : Blocks
no_blocks = record { begun = 0; headless = false; sessions = replicate MAX_BLOCKS 0 }

-- one block more, where the one before it has its `day` row or not
abbrev pub with_block : Blocks → Bool → Result Blocks Cause
with_block b headed =
    if nat_lt b.begun MAX_BLOCKS
    then Ok (record b { begun = b.begun + 1; headless = b.headless || (nat_lt 0 b.begun && not headed) })
    else Err cause.Limit

-- how many sessions a slot has had
abbrev pub sessions_of : Blocks → ℕ → ℕ
sessions_of b slot = get_or b.sessions (slot - 1) 0

-- one session more of a slot
abbrev pub with_session : Blocks → ℕ → Result Blocks Cause
with_session b slot =
    if nat_lt (slot - 1) MAX_BLOCKS && nat_lt (sessions_of b slot) MAX_SESSIONS_A_SLOT
    then Ok (record b { sessions = set b.sessions (slot - 1) (sessions_of b slot + 1) })
    else Err cause.Limit

-- whether a row of this kind begins a block, where the least stage so far is this one: the first row of all, or a
-- `segment` row behind a `day` or `carry` row
abbrev pub begins : Form → ℕ → RowKind → Bool
begins form.Office stage k =
    if stage == 0 then is_of_block k
    else is_segment k && (nat_le (stage_of kind.Day) stage && nat_le stage (stage_of kind.Carry))
begins f stage k = false

-- the blocks behind a row that begins none
abbrev pub counted : Blocks → Row → Result Blocks Cause
counted b (row.Office (office.Session slot party)) = with_session b slot
counted b r = Ok b

-- one session more of a phase, which a session begins at row n
abbrev pub joined : Waiting → ℕ → List ℕ → Result Waiting Cause
joined (waiting.Phase began sessions former) n party =
    if nat_lt sessions MAX_SESSIONS_A_PHASE then Ok (waiting.Phase began (sessions + 1) party) else Err cause.Limit
joined w n party = Ok (waiting.Phase n 1 party)

-- what waits for a `desk` row behind row n: the sessions since the start or the last one
abbrev pub phase_behind : Waiting → ℕ → Row → Result Waiting Cause
phase_behind w n (row.Office (office.Session slot party)) = joined w n party
phase_behind w n (row.Office (office.Desk moment)) = Ok waiting.Nothing
phase_behind w n r = Ok w

-- the party of the session that is on
abbrev pub party_of : Waiting → Option (List ℕ)
party_of (waiting.Phase began sessions party) = Some party
party_of w = None

abbrev pub is_idle : Waiting → Bool
is_idle (waiting.Phase began sessions party) = false
is_idle w = true

-- whether a row of this kind is a call of a session, and no session is on
abbrev pub lacks_session : Form → Waiting → RowKind → Bool
lacks_session form.Office w k = is_of_session k && is_idle w
lacks_session f w k = false
