-- The share of each slot in a run.
use Rattle.std.specs.Prelude.{◌≡◌, ℕ, ◌+◌, ◌<◌, List, [], ◌∷◌, ◌++◌, length}
use Rattle.std.specs.List.{range_with_len}
use Rattle.gd_desk.specs.declared.desk.Desk.{Desk}
use Rattle.gd_machine.specs.Day.{Day}
use Rattle.gd_office_part.specs.declared.kept.Receipt.{Receipt}
use Rattle.gd_office_part.specs.declared.threads.Phase.{Phase}
use Rattle.gd_office_run.specs.declared.holding.Holding.{Holding}
use Rattle.gd_office_run.specs.Shares.{Share, nothing, plus, share_at, of_sessions, of_desk, IsOf, Gains}
use Rattle.gd_office_run.specs.Runs.{Outcome, Gives, IsRun, counts_of, phase_rows, run_rows}
use Rattle.gd_replies.specs.declared.reply.Reply.{Reply}

-- The share of slot k in desks, of which the first is that of slot n.
abbrev pub of_desks : ℕ → List Desk → ℕ → Share
of_desks n [] k = nothing
of_desks n (d ∷ desks) k = plus (of_desk n k d.froze d.closed) (of_desks (n + 1) desks k)

-- The share of slot k in what a phase gave.
abbrev pub share_in : ℕ → Phase → List (List Receipt) → List Desk → ℕ → Share
share_in first p lists desks k =
    plus (of_sessions k p.sessions.items (counts_of lists) lists (range_with_len first (length lists))) (of_desks 0 desks k)

-- The share of slot k in a run.
abbrev pub share_of : List Outcome → ℕ → Share
share_of [] k = nothing
share_of (o ∷ os) k = plus (share_in o.first o.phase o.lists o.desks k) (share_of os k)

-- All that a run gave is held, by slot.
abbrev pub Holds : {J : Type 0} → ℕ → Holding J → List Outcome → Type 0
Holds slots holding os = IsOf slots holding × ((k : ℕ) → k < slots → share_at holding k ≡ share_of os k)

-- The rows tell a run of these phases, and all that it gave is held.
abbrev pub HoldsRun : {J : Type 0} → List Day → ℕ → List Phase → List Reply → Holding J → Type 0
HoldsRun days slots phases rows holding = (os : List Outcome) × IsRun days slots phases os × (rows ≡ run_rows os) × Holds slots holding os

-- What a phase gave is told behind the rows, and held.
abbrev pub Adds : {J : Type 0} → List Day → ℕ → ℕ → Phase → List Reply → Holding J → List Reply → Holding J → Type 0
Adds days slots first p rows holding after new =
    (lists : List (List Receipt)) × (desks : List Desk) × Gives days slots p lists desks
    × (after ≡ rows ++ phase_rows first lists desks) × IsOf slots new × Gains slots holding new (share_in first p lists desks)
