use Rattle.std.proofs.Common.{◌≡◌, ◌+◌, ◌-◌}
use Rattle.csv.specs.Records.{fields_of}
use Rattle.gd_text_part.specs.Rows.{empty_run}
use Rattle.gd_text_part.specs.declared.row.TheConstants.{FIELD_COUNT}
use Rattle.gd_text_part.proofs.fields.empty_from.Given as goal

abbrev pub invariant-fields : goal.invariant-fields
invariant-fields l = empty_run (fields_of l.row) l.at (FIELD_COUNT + 1 - l.at) ≡ empty_run (fields_of l.fn.row) l.fn.k (FIELD_COUNT + 1 - l.fn.k)
