use Rattle.std.proofs.Common.{◌≡◌, take, false}
use Rattle.gd_office.specs.Naming.{has_name}
use Rattle.gd_office.proofs.apart.has_name.Given as goal

abbrev pub invariant-loop-book : goal.invariant-loop-book
invariant-loop-book l = has_name l.name (take l.book-index l.books) ≡ false
