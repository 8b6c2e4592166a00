use Rattle.std.proofs.Common.{All, take}
use Rattle.gd_archive.specs.Soundness.{IsSound}
use Rattle.gd_archive.proofs.auditing.test_all.Given as goal

abbrev pub invariant-rows : goal.invariant-rows
invariant-rows l = All IsSound (take l.row-index l.rows)
