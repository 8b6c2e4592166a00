use Rattle.std.proofs.Common.{◌≡◌, ◌++◌, drop}
use Rattle.std.specs.List.{filter_map}
use Rattle.gasday_office.specs.Calls.{call_of}
use Rattle.gasday_office.proofs.calls.calls_of.Given as goal

-- The calls so far, and those of the rows that are left, are all.
abbrev pub invariant-rows : goal.invariant-rows
invariant-rows l = l.calls.items ++ filter_map (call_of l.system) (drop l.row-index l.rows) ≡ filter_map (call_of l.system) l.rows
