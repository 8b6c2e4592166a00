-- A book grows, and is made again.
use Rattle.std.proofs.Common.{◌≡◌, ℕ, List, [], ◌++◌, sym, ap, subst}
use Rattle.std.proofs.lemmas.Grind.{flat_map-append}
use Rattle.gd_machine.specs.Day.{Day}
use Rattle.gd_machine.specs.History.{History}
use Rattle.gd_journal_store.specs.Pieces.{Piece}
use Rattle.gd_serving.specs.Yields.{Yield, LinesGive, rows_of, replies_of}
use Rattle.gd_serving.specs.Runs.{rows_text, told_text, AreOf}
use Rattle.gd_live.specs.Kept.{AreCalls}
use Rattle.gd_live.specs.Lines.{Gives}
use Rattle.gd_live.specs.Stands.{Stand, IsGroup, no_group}
use Rattle.gasday_live.specs.Books.{IsOpening, IsBook, BooksGrow}
use Rattle.gasday_live.proofs.Stands.{none_waits, lines_day}

-- ---- the law

-- the laws of lines and of calls, as they are told
abbrev pub LinesKeep : Type 0
LinesKeep = (s t : Stand) (lines : List (List ℕ)) (ys : List Yield) → IsGroup s.number s.group → LinesGive Gives s lines t ys → AreCalls s.day s.history (rows_of ys) (replies_of ys) t.history

abbrev pub CallsGoOn : Type 0
CallsGoOn = (day : Day) (h between after : History) (rows replies more told : List ℕ) → AreCalls day h rows replies between → AreCalls day between more told after → AreCalls day h (rows ++ more) (replies ++ told) after

module _ (keep : LinesKeep) (go_on : CallsGoOn) (s t : Stand) (lines : List (List ℕ)) (ys : List Yield) (had ps : List Piece) (book : IsBook had s.day s.history) (none : s.group ≡ no_group) (gave : LinesGive Gives s lines t ys) (are : AreOf ys ps) where
  same_day : t.day ≡ s.day
  same_day = lines_day s t lines ys (none_waits s none) gave

  -- the pieces keep calls, of the day that the book has behind them
  pieces_keep : AreCalls t.day s.history (rows_text ps) (told_text ps) t.history
  pieces_keep =
      subst (λ (d : Day). AreCalls d s.history (rows_text ps) (told_text ps) t.history) (sym same_day)
      (subst (λ (rows : List ℕ). AreCalls s.day s.history rows (told_text ps) t.history) (sym are.rows)
      (subst (λ (told : List ℕ). AreCalls s.day s.history (rows_of ys) told t.history) (sym are.replies) (keep s t lines ys (none_waits s none) gave)))

  grows : IsBook (had ++ ps) t.day t.history
  grows = record {
    opening = book.opening;
    rest = book.rest ++ ps;
    pieces = ap (λ (l : List Piece). l ++ ps) book.pieces;
    rows = book.rows;
    opens = subst (IsOpening book.opening book.rows) (sym same_day) book.opens;
    calls = subst (λ (rows : List ℕ). AreCalls t.day [] rows (told_text (book.rest ++ ps)) t.history) (sym (flat_map-append (λ (p : Piece). p.0) book.rest ps))
        (subst (λ (told : List ℕ). AreCalls t.day [] (rows_text book.rest ++ rows_text ps) told t.history) (sym (flat_map-append (λ (p : Piece). p.1) book.rest ps))
        (go_on t.day [] s.history t.history (rows_text book.rest) (told_text book.rest) (rows_text ps) (told_text ps)
        (subst (λ (d : Day). AreCalls d [] (rows_text book.rest) (told_text book.rest) s.history) (sym same_day) book.calls) pieces_keep));
  }

pub books_grow : LinesKeep → CallsGoOn → BooksGrow
books_grow keep go_on = record { grows = λ s t lines ys had ps book none gave are. grows keep go_on s t lines ys had ps book none gave are }
