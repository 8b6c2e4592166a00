-- The rows that tell the receipts of sessions. Sessions, events and lines count from 1 in a row.
use Rattle.std.specs.Prelude.{ℕ, ◌+◌, List, [], ◌∷◌, ◌++◌, map}
use Rattle.gd_machine.specs.declared.event.Event.{Event}
use Rattle.gd_machine.specs.declared.event.Event.TheVariants as event
use Rattle.gd_machine.specs.declared.reply.Reply.TheVariants as book
use Rattle.gd_office_part.specs.declared.kept.Receipt.{Receipt}
use Rattle.gd_office_part.specs.declared.kept.Told.{Told}
use Rattle.gd_office_part.specs.declared.kept.Told.TheVariants as told
use Rattle.gd_machine.specs.declared.call.Call.{Call}
use Rattle.gd_machine.specs.declared.call.Call.TheVariants as call
use Rattle.gd_replies.specs.declared.reply.Reply.{Reply}
use Rattle.gd_replies.specs.declared.reply.Reply.TheVariants as reply

-- The call that makes an event: a desk freezes, and settles by a publish or by a declared cut.
abbrev pub call_of : Event → Call
call_of (event.Nominate moment party key quantity) = call.Nominate
call_of (event.Respond moment party line end quantity) = call.Respond
call_of (event.PostCapacity moment element capacity) = call.Post
call_of (event.Freeze moment) = call.Freeze
call_of (event.Publish moment certificate) = call.Settle
call_of (event.Declare moment round cut) = call.Settle
call_of (event.Waive moment line) = call.Waive
call_of (event.Skip moment) = call.Skip

-- What a session is told of an event: its number with a nomination's cycle and line, its number alone, or the length of the
-- history with the refusal.
abbrev pub step_row : ℕ → Event → Told → Reply
step_row session e (told.Accepted number (book.Accepted n cycle line)) = reply.ReceiptAccepted session number cycle (line + 1)
step_row session e (told.Accepted number r) = reply.ReceiptDone session number
step_row session e (told.Refused len refusal) = reply.ReceiptRefused session len (call_of e) refusal

abbrev pub receipt_row : ℕ → Receipt → Reply
receipt_row session receipt = step_row session receipt.event receipt.told

-- The receipts of one session in their order.
abbrev pub session_rows : ℕ → List Receipt → List Reply
session_rows session receipts = map (receipt_row session) receipts

-- The receipts of sessions, one list for each: the first has this number, and each further one the next.
abbrev pub sessions_rows : ℕ → List (List Receipt) → List Reply
sessions_rows first [] = []
sessions_rows first (receipts ∷ lists) = session_rows first receipts ++ sessions_rows (first + 1) lists
