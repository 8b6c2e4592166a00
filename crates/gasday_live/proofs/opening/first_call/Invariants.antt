use Rattle.std.proofs.Common.{◌≡◌, [], take}
use Rattle.gd_day.specs.Calls.{calls_of}
use Rattle.gasday_live.proofs.opening.first_call.Given as goal

-- none of the rows so far is a call
abbrev pub invariant-rows : goal.invariant-rows
invariant-rows l = record {
  none : calls_of (take l.row-index l.rows) ≡ [];
  at_is : l.at ≡ l.row-index;
}
