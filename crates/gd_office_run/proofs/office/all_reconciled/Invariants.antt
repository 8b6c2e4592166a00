use Rattle.std.proofs.Common.{◌≡◌, drop}
use Rattle.std.specs.List.{list_all}
use Rattle.gd_office_run.specs.RunRows.{is_reconciled}
use Rattle.gd_office_run.proofs.office.all_reconciled.Given as goal

abbrev pub invariant-loop-end : goal.invariant-loop-end
invariant-loop-end l = list_all is_reconciled (drop l.end-index l.ends) ≡ list_all is_reconciled l.ends
