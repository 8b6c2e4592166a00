use Rattle.std.proofs.Common.{◌≡◌, ℕ, ℤ, pos, List, rules}
use Rattle.sqlite.specs.Order.{Row, column}
use Rattle.sqlite.specs.declared.types.Value.TheVariants.{Int, Blob}
use Rattle.gd_journal_store.specs.Pieces.{numbered_at}
use Rattle.gd_journal_store.specs.Rows.{shape}
use Rattle.gd_journal_store.proofs.reading.bytes_of.Goals as goal

piece_read : (row : Row) (n : ℕ) (found : ℤ) (rows told : List ℕ) → column row 0 ≡ Int found → found ≡ pos n → column row 1 ≡ Blob rows → column row 2 ≡ Blob told → shape row ≡ numbered_at n (rows, told)
piece_read row n found rows told number is first second = cc

pub returns-clause-read : goal.returns-clause-read
returns-clause-read c =
    let number : c.in_ok-found.found ≡ pos c.args.number = search rules in
    piece_read c.args.row.now c.args.number _ _ _ c.in_ok-found.ensures.ok.1 number c.in_ok-bytes_at.ensures.read c.in_ok-bytes_at-2.ensures.read
