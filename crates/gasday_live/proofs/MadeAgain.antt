-- A book is made again.
use Rattle.std.proofs.Common.{◌≡◌, inr, ℕ, List, [], ◌∷◌, drop, refl, sym, subst, ◌∙◌}
use Rattle.gd_book.specs.Kept.{Kept}
use Rattle.gd_journal_store.specs.Pieces.{Piece}
use Rattle.gd_serving.specs.Yields.{Yield, LinesGive}
use Rattle.gd_serving.specs.Replays.{Replays}
use Rattle.gd_serving.specs.Replays as replays
use Rattle.gd_serving.specs.declared.replaying.ReplayFault.{ReplayFault}
use Rattle.gd_serving.specs.declared.replaying.ReplayFault.TheVariants.{Differs, OutOfMemory, Store}
use Rattle.gd_live.specs.Seen.{at_desk}
use Rattle.gd_live.specs.declared.desk.Desk.{Desk}
use Rattle.gd_live.specs.Lines.{Gives}
use Rattle.gd_live.specs.Stands.{Stand, no_group}
use Rattle.gasday_live.specs.Books.{IsOpening, IsBook, OpensSo, stand_behind, new_stand, Stands, BooksGrow, Blames, DeskGives}
use Rattle.gasday_live.proofs.Stands.{lines_seen}
use Rattle.gasday_live.proofs.Opened.{opened_alone, same_day_new, gave_new, gave_of_day, stands_new}

-- pieces that were taken again behind an opening are a book
pub read_again : {S : Type 0} (gives : S → List ℕ → S → Yield → Type 0) (f : S → Stand) → ((s : S) (line : List ℕ) (t : S) (y : Yield) → gives s line t y → Gives (f s) line (f t) y)
    → BooksGrow → (ps : List Piece) (book : Kept) (count size : ℕ) → (opening : List ℕ) × (ps ≡ (opening, []) ∷ drop 1 ps) × OpensSo opening book count size
    → (a b : S) (calls : ℕ) → f a ≡ stand_behind book count size → Replays gives a (drop 1 ps) b calls
    → (u : Stand) → u ≡ record { day = (f b).day; history = (f b).history; group = no_group; number = 0; room = (f b).room } → Stands ps calls u
read_again gives f one grow ps book count size (opening, is, opened) a b calls began again u u_is =
    let day_of = λ (s : Stand). s.day in
    let gave : LinesGive Gives (stand_behind book count size) again.lines (f b) again.yields = subst (λ (s : Stand). LinesGive Gives s again.lines (f b) again.yields) began (lines_seen gives f one a again.lines b again.yields again.gave) in
    let new = new_stand book.day opening opened.rows in
    let day = same_day_new opening book count size opened grow again.lines (f b) again.yields (drop 1 ps) calls gave again.are in
    let gave_new' = gave_new opening book count size opened grow again.lines (f b) again.yields (drop 1 ps) calls gave again.are in
    let gave_day = gave_of_day opening book count size opened grow again.lines (f b) again.yields (drop 1 ps) calls gave again.are in
    let grown = grow.grows new (f b) again.lines again.yields ((opening, []) ∷ []) (drop 1 ps) (opened_alone opening opened.rows book.day opened.opens) refl gave_new' again.are in
    rw u_is (record {
      book = subst (λ (l : List Piece). IsBook l (f b).day (f b).history) (sym is) grown;
      counted = record {
        opening = opening;
        rest = drop 1 ps;
        pieces = is;
        rows = opened.rows;
        opens = subst (IsOpening opening opened.rows) (sym day) opened.opens;
        lines = again.lines;
        last = f b;
        yields = again.yields;
        gave = gave_day;
        are = again.are;
        count = again.count;
        history = refl;
        room = refl;
      };
      group = refl;
    })

-- pieces that differ behind an opening
pub blames_so : (ps : List Piece) (why : ReplayFault) (book : Kept) (count size : ℕ) → (opening : List ℕ) × (ps ≡ (opening, []) ∷ drop 1 ps) × OpensSo opening book count size
    → (desk : Desk) → at_desk desk ≡ stand_behind book count size → replays.Blames DeskGives desk (drop 1 ps) 2 1 why → Blames ps why
blames_so ps (Differs piece call) book count size (opening, is, opened) desk began differs = inr (record {
  opening = opening;
  pieces = is;
  rows = opened.rows;
  day = book.day;
  opens = opened.opens;
  desk = desk;
  stands = began ∙ stands_new opening book count size opened;
  differs = differs;
})
blames_so ps OutOfMemory book count size first desk began differs = tt
blames_so ps (Store fault) book count size first desk began differs = tt
