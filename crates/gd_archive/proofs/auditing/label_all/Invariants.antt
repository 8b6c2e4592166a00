use Rattle.std.proofs.Common.{All, take}
use Rattle.gd_archive.specs.Soundness.{IsLabelled}
use Rattle.gd_archive.proofs.auditing.label_all.Given as goal

abbrev pub invariant-rows : goal.invariant-rows
invariant-rows l = All IsLabelled (take l.row-index l.rows)
