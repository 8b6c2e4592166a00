-- The sums of the numbers of few sessions.
use Rattle.std.specs.Prelude.{◌≤◌, ◌*◌, ◌^◌}
use Rattle.gd_office_part.specs.declared.kept.TheConstants.{MAX_SESSIONS}
use Rattle.gd_office_part.specs.declared.sums.Sums.{Sums}

-- As much as the numbers of 1,024 sessions can make at most.
abbrev pub IsSmall : Sums → Type 0
IsSmall sums = (sums.calls ≤ 2 ^ 64 * MAX_SESSIONS) × (sums.nominations ≤ 2 ^ 64 * MAX_SESSIONS) × (sums.dekatherms ≤ 2 ^ 64 * MAX_SESSIONS)
