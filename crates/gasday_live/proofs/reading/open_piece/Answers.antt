use Rattle.std.proofs.Common.{◌≡◌, Some, slice_get, sym}
use Rattle.std.proofs.lemmas.Result.{IfOk-weaker}
use Rattle.gasday_live.proofs.ReadPieces.{first_is, untold}
use Rattle.gasday_live.proofs.reading.open_piece.Goals as goal

pub returns-in-Some-clause-opened : goal.returns-in-Some-clause-opened
returns-in-Some-clause-opened g c clean ps had =
    let read = c.in_ok-first.ensures.read clean ps had in
    let piece = c.in-Some.piece.now in
    let got : slice_get c.in_ok-first.first.items 0 ≡ Some piece = sym (rw (c.as_slice.ensures.value, c.in-Some.is) at c.first.ensures.value) in
    let is = first_is ps c.in_ok-first.first.items piece read.0 got in
    IfOk-weaker c.open_first.result _ _ (λ o it. (read.1, (piece.rows.items, untold ps piece is it.1, it.0))) c.open_first.ensures.opened
