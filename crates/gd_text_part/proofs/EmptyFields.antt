-- Looking over empty fields one by one.
use Rattle.std.proofs.Common.{◌≡◌, ℕ, suc, ◌+◌, ◌-◌, ◌<◌, ◌≤◌, ◌==◌, List, Result, Ok, Err, true, false, length, sym, refl, arith, ◌∙◌}
use Rattle.gd_text_part.specs.declared.fault.Cause.{Cause}
use Rattle.gd_text_part.specs.declared.fault.Cause.TheVariants as cause
use Rattle.gd_text_part.specs.declared.row.TheConstants.{FIELD_COUNT}
use Rattle.gd_text_part.specs.Rows.{field, empty_run}

one_less : (at : ℕ) → at < FIELD_COUNT + 1 → FIELD_COUNT + 1 - at ≡ suc (FIELD_COUNT + 1 - (at + 1))
one_less at lt = omega arith

pub goes_on : (fields : List (List ℕ)) (at : ℕ) (total : Result (Unit {0}) Cause) → at < FIELD_COUNT + 1 → (length (field fields at) == 0) ≡ true → empty_run fields at (FIELD_COUNT + 1 - at) ≡ total → empty_run fields (at + 1) (FIELD_COUNT + 1 - (at + 1)) ≡ total
unfolding empty_run
goes_on fields at total lt none so_far =
    let one : empty_run fields at (FIELD_COUNT + 1 - at) ≡ empty_run fields (at + 1) (FIELD_COUNT + 1 - (at + 1)) = rw (one_less at lt, none) refl in
    sym one ∙ so_far

pub stops : (fields : List (List ℕ)) (at : ℕ) (total : Result (Unit {0}) Cause) → at < FIELD_COUNT + 1 → (length (field fields at) == 0) ≡ false → empty_run fields at (FIELD_COUNT + 1 - at) ≡ total → Err (cause.BadField at) ≡ total
unfolding empty_run
stops fields at total lt some so_far =
    let one : empty_run fields at (FIELD_COUNT + 1 - at) ≡ Err (cause.BadField at) = rw (one_less at lt, some) refl in
    sym one ∙ so_far

pub is_done : (fields : List (List ℕ)) (at : ℕ) (total : Result (Unit {0}) Cause) → FIELD_COUNT + 1 ≤ at → empty_run fields at (FIELD_COUNT + 1 - at) ≡ total → Ok tt ≡ total
unfolding empty_run
is_done fields at total le so_far =
    let none : FIELD_COUNT + 1 - at ≡ 0 = omega arith in
    rw none at so_far
