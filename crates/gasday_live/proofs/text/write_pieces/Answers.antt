use Rattle.std.proofs.Common.{rules, ◌<◌, length}
use Rattle.std.proofs.KnownBytes.{Appends-trans}
use Rattle.gasday_live.proofs.ReadPieces.{rows_more, stops_in_piece}
use Rattle.gasday_live.proofs.text.write_pieces.Goals as goal

pub pieces-preserved : goal.pieces-preserved
pieces-preserved g c =
    let low : c.pieces.piece-index < length c.args.all.now = search rules in
    rw (rows_more c.args.all.now c.pieces.piece-index c.piece-item.result low c.piece-item.is) (Appends-trans _ _ _ _ _ c.pieces.invariant (rw c.as_slice.ensures.value at c.in-Ok.ensures.all))

pub returns-in_default-clause-front : goal.returns-in_default-clause-front
returns-in_default-clause-front g c =
    let low : c.pieces.piece-index < length c.args.all.now = search rules in
    stops_in_piece c.args.all.now c.pieces.piece-index c.piece-item.result _ _ _ low c.piece-item.is c.pieces.invariant (rw c.as_slice.ensures.value at c.write_bytes.ensures.front)
