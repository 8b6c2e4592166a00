-- A book behind its opening.
use Rattle.std.proofs.Common.{◌≡◌, inl, ℕ, List, [], ◌∷◌, refl, sym, subst, ◌∙◌}
use Rattle.gd_text_part.specs.declared.row.Row.{Row}
use Rattle.gd_book.specs.Kept.{Kept}
use Rattle.gd_machine.specs.Day.{Day}
use Rattle.gd_machine.specs.History.{History}
use Rattle.gd_journal_store.specs.Pieces.{Piece}
use Rattle.gd_serving.specs.Yields.{Yield, LinesGive}
use Rattle.gd_serving.specs.Runs.{AreOf}
use Rattle.gd_live.specs.Kept.{AreCalls}
use Rattle.gd_live.specs.Lines.{Gives}
use Rattle.gd_live.specs.Stands.{Stand}
use Rattle.gasday_live.specs.Books.{IsOpening, IsBook, OpensSo, stand_behind, new_stand, Stands, BooksGrow}
use Rattle.gasday_live.proofs.Stands.{none_waits, lines_day}

-- nothing is kept of no line
calls_none : (day : Day) (h : History) → AreCalls day h [] [] h
calls_none day h = record {
  lines = [];
  plain = tt;
  bytes = refl;
  read = [];
  reads = refl;
  whole = inl refl;
  passes = tt;
  told = [];
  runs = (refl, refl);
  replies_are = refl;
}

-- an opening alone is a book
pub opened_alone : (text : List ℕ) (rows : List Row) (day : Day) → IsOpening text rows day → IsBook ((text, []) ∷ []) day []
opened_alone text rows day opens = record {
  opening = text;
  rest = [];
  pieces = refl;
  rows = rows;
  opens = opens;
  calls = calls_none day [];
}

module _ (text : List ℕ) (book : Kept) (count size : ℕ) (opened : OpensSo text book count size) where
  -- it stands as a new one
  pub stands_new : stand_behind book count size ≡ new_stand book.day text opened.rows
  stands_new = rw (opened.new, opened.count_is, opened.size_is)

  -- the book that an opening opens
  pub opened_so : (s : Stand) → s ≡ stand_behind book count size → Stands ((text, []) ∷ []) 0 s
  opened_so s is = rw (is ∙ stands_new) (record {
    book = opened_alone text opened.rows book.day opened.opens;
    counted = record {
      opening = text;
      rest = [];
      pieces = refl;
      rows = opened.rows;
      opens = opened.opens;
      lines = [];
      last = new_stand book.day text opened.rows;
      yields = [];
      gave = refl;
      are = record { rows = refl; replies = refl };
      count = refl;
      history = refl;
      room = refl;
    };
    group = refl;
  })

  -- the same behind lines, of which the other pieces keep what they yield
  module _ (grow : BooksGrow) (lines : List (List ℕ)) (t : Stand) (ys : List Yield) (ps : List Piece) (calls : ℕ) (gave : LinesGive Gives (stand_behind book count size) lines t ys) (are : AreOf ys ps) where
    pub gave_new : LinesGive Gives (new_stand book.day text opened.rows) lines t ys
    gave_new = subst (λ (s : Stand). LinesGive Gives s lines t ys) stands_new gave

    pub same_day_new : t.day ≡ book.day
    same_day_new = lines_day (new_stand book.day text opened.rows) t lines ys (none_waits (new_stand book.day text opened.rows) refl) gave_new

    pub gave_of_day : LinesGive Gives (new_stand t.day text opened.rows) lines t ys
    gave_of_day = subst (λ (d : Day). LinesGive Gives (new_stand d text opened.rows) lines t ys) (sym same_day_new) gave_new
