-- What lines carry into a gas day from the day before it.
use Rattle.std.specs.Prelude.{ℕ, List, [], ◌∷◌, ◌++◌, map, Result, Ok, Err, if◌then◌else◌}
use Rattle.std.specs.List.{list_any}
use Rattle.gd_rules.specs.Lines.{Key, same_key}
use Rattle.gd_text_part.specs.declared.fault.Cause.TheVariants as cause
use Rattle.gd_text_part.specs.declared.fault.TextFault.{TextFault}
use Rattle.gd_text_part.specs.declared.fault.TextFault.TheVariants as fault
use Rattle.gd_text_part.specs.declared.row.Row.{Row}
use Rattle.gd_text_part.specs.declared.row.Row.TheVariants as row
use Rattle.gd_text.specs.Building.{built_from}

abbrev pub keys : List (Key × ℕ) → List Key
keys carry = map (λ e. e.0) carry

-- What is carried after row n: a `carry` row adds the quantity of a line, which may not be there, and other rows say
-- nothing of it.
abbrev pub carry_step : ℕ → List (Key × ℕ) → Row → Result (List (Key × ℕ)) TextFault
carry_step n carry (row.Carry key quantity) =
    if list_any (same_key key) (keys carry) then Err (fault.Row n cause.Duplicate)
    else Ok (carry ++ (key, quantity) ∷ [])
carry_step n carry r = Ok carry

-- What all rows carry, in order, or the first line that is carried twice, at its later row.
abbrev pub carry_of : List Row → Result (List (Key × ℕ)) TextFault
carry_of rows = built_from carry_step 1 [] rows
