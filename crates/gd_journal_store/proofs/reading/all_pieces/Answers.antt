use Rattle.std.proofs.Common.{rules, ◌≡◌, ◌+◌, ◌^◌, ◌<◌, ◌≤◌, List, ◌++◌, ◌∷◌, [], map, length, get_or, arith, ap, ◌∙◌, sym}
use Rattle.std.proofs.lemmas.List.{map-append, length-map}
use Rattle.gd_journal_store.specs.Pieces.{Piece, numbered, numbered_at}
use Rattle.gd_journal_store.specs.Rows.{shape}
use Rattle.gd_journal_store.specs.Calls.{IsOfRows}
use Rattle.gd_journal_store.specs.Seen.{seen}
use Rattle.gd_journal_store.proofs.Listing.{one_read, piece_at}
use Rattle.gd_journal_store.proofs.Counting.{damage_weaker}
use Rattle.gd_journal_store.proofs.reading.all_pieces.Goals as goal

pub rows-preserved : goal.rows-preserved
rows-preserved c =
    let kept = c.rows.invariant in
    let items = c.rows.pieces.items in
    let piece = c.in_ok-piece.piece in
    let low : c.rows.row-index < length c.args.rows.now = search rules in
    let len : length (map seen items) ≡ c.rows.row-index = length-map items seen ∙ kept.count in
    let next : c.rows.number + 1 ≡ length (map seen items) + (c.args.after + 1) = omega (arith, kept.number, len) in
    let one : shape c.row-item.result ≡ numbered_at (length (map seen items) + (c.args.after + 1)) (seen piece) = c.in_ok-piece.ensures.read ∙ ap (λ n. numbered_at n (seen piece)) next in
    let pushed : c.push.new.self.items ≡ items ++ piece ∷ [] = search rules in
    let read = one_read c.args.rows.now c.rows.row-index c.row-item.result (c.args.after + 1) (map seen items) (seen piece) low c.row-item.is kept.read one in
    let more : map seen c.push.new.self.items ≡ map seen items ++ seen piece ∷ [] = ap (map seen) pushed ∙ map-append seen items (piece ∷ []) in
    let count : length c.push.new.self.items ≡ c.rows.row-index + 1 = search rules in
    let number : c.rows.number + 1 ≡ c.args.after + (c.rows.row-index + 1) = omega (arith, kept.number) in
    record { read = read ∙ ap (numbered (c.args.after + 1)) (sym more); count = count; number = number }

pub returns-in_err-piece-clause-fault : goal.returns-in_err-piece-clause-fault
returns-in_err-piece-clause-fault c =
    let kept = c.rows.invariant in
    let low : c.rows.row-index < length c.args.rows.now = search rules in
    let number : c.rows.row-index + (c.args.after + 1) ≡ c.rows.number + 1 = omega (arith, kept.number) in
    let damage = (ps : List Piece) → map shape c.args.rows.now ≡ numbered (c.args.after + 1) ps → 2 ^ 32 ≤ c.args.after + length c.args.rows.now in
    let told : IsOfRows damage c.in_err-piece.field-0.0 = damage_weaker _ damage _ (λ no ps is.
    absurd (no _ (piece_at c.args.rows.now c.rows.row-index c.row-item.result (c.args.after + 1) ps low c.row-item.is is ∙ ap (λ n. numbered_at n (get_or ps c.rows.row-index ([], []))) number))) c.in_err-piece.ensures.fault in
    search rules
