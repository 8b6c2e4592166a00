use Rattle.std.proofs.Common.{◌≡◌, drop}
use Rattle.gd_office.specs.Naming.{are_apart}
use Rattle.gd_office.proofs.apart.are_apart.Given as goal

abbrev pub invariant-loop-at : goal.invariant-loop-at
invariant-loop-at l = are_apart (drop l.at l.books) ≡ are_apart l.books
