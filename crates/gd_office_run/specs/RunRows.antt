-- What is told of a whole run of an office.
use Rattle.std.specs.Prelude.{◌≡◌, ℕ, ◌+◌, Bool, true, false, List, [], ◌∷◌, ◌++◌, length, take}
use Rattle.std.specs.List.{list_all}
use Rattle.gd_machine.specs.Day.{Day}
use Rattle.gd_office_part.specs.declared.threads.Phase.{Phase}
use Rattle.gd_office_run.specs.declared.end.End.{End}
use Rattle.gd_office_run.specs.declared.end.End.TheVariants as end
use Rattle.gd_office_run.specs.Shares.{EndFrom}
use Rattle.gd_office_run.specs.Runs.{Outcome, IsRun, run_rows}
use Rattle.gd_office_run.specs.RunShares.{share_of}
use Rattle.gd_replies.specs.declared.reply.Reply.{Reply}
use Rattle.gd_replies.specs.declared.reply.Reply.TheVariants as reply

abbrev pub end_row : ℕ → End → Reply
end_row slot (end.Reconciled events nominations dekatherms) = reply.Reconciled slot events nominations dekatherms
end_row slot (end.Misfit list index) = reply.Mismatch slot list index
end_row slot (end.Missing count) = reply.Missing slot count

-- The ends of slots that are numbered from this one on.
abbrev pub ends_rows : ℕ → List End → List Reply
ends_rows slot [] = []
ends_rows slot (e ∷ ends) = end_row slot e ∷ ends_rows (slot + 1) ends

abbrev pub is_reconciled : End → Bool
is_reconciled (end.Reconciled events nominations dekatherms) = true
is_reconciled e = false

-- Each slot ends by its share in the run.
abbrev pub AreEnds : List Day → ℕ → List Outcome → List End → Type 0
AreEnds days slots os ends = (length ends ≡ slots) × EndFrom days (share_of os) 0 ends

-- The rows tell a run of these phases and then how each slot ends, where the books of the slots have these opening values;
-- whether all slots are reconciled.
abbrev pub TellsRun : List Day → ℕ → List Phase → List Reply → Bool → Type 0
TellsRun days slots phases rows good =
    (os : List Outcome) × (ends : List End) × IsRun days slots phases os × AreEnds days slots os ends
    × (rows ≡ run_rows os ++ ends_rows 1 ends) × (good ≡ list_all is_reconciled ends)

-- The rows tell a run of the first of these phases.
abbrev pub EndsEarly : List Day → ℕ → List Phase → List Reply → Type 0
EndsEarly days slots phases rows = (n : ℕ) × (os : List Outcome) × IsRun days slots (take n phases) os × (rows ≡ run_rows os)
