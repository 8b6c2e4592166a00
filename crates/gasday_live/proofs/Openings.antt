-- Openings: rows none of which is a call, and the book that they open.
use Rattle.std.proofs.Common.{◌≡◌, ◌≢◌, inl, ◌<◌, ◌+◌, ℕ, List, [], ◌∷◌, ◌++◌, length, take, get_or, Bool, true, false, Option, Some, None, is_some, Ok, Err, refl, sym, ap, subst, ◌∙◌, suc, arith}
use Rattle.std.proofs.Math.Seq.{take-suc}
use Rattle.csv.specs.Reading.{strip_bom}
use Rattle.gd_text_part.specs.Texts.{IsWithin, Tells, rows_of}
use Rattle.gd_text_part.specs.declared.fault.TextFault.{TextFault}
use Rattle.gd_text_part.specs.declared.fault.TextFault.TheVariants as fault
use Rattle.gd_text_part.specs.declared.kind.Form.TheVariants as form
use Rattle.gd_text_part.specs.declared.row.Row.{Row}
use Rattle.gd_text_part.specs.declared.row.Row.TheVariants as row
use Rattle.gd_live.specs.TextLines.{IsClosed}
use Rattle.gd_book.specs.Kept.{Kept}
use Rattle.gd_day.specs.Calls.{calls_after, calls_of, event_of}
use Rattle.gd_machine.specs.Day.{Day}
use Rattle.gasday_part.specs.OpenedBooks.{OpensBook}
use Rattle.gasday_part.specs.declared.opened.NoBook.TheVariants as none
use Rattle.gasday_live.specs.Books.{OpensSo}
use Rattle.gasday_live.specs.Unopened.{OpensNone}

none_more : (n : ℕ) (g rows : List Row) (r : Row) → calls_after n g rows ≡ [] → event_of r ≡ None → calls_after n g (rows ++ r ∷ []) ≡ []
none_more n g [] (row.Event e) none is = cc
none_more n g [] r none is = refl
none_more n g (row.Event e ∷ rows) r none is = cc
none_more n g (x ∷ rows) r none is = none_more n (g ++ x ∷ []) rows r none is

pub no_event : {A : Type 0} (o : Option A) (b : Bool) → b ≡ is_some o → b ≡ false → o ≡ None
no_event None b is not = refl
no_event (Some x) b is not = let bad : true ≡ false = sym is ∙ not in cc

-- one row more that is no call
pub no_call_more : (rows : List Row) (i : ℕ) (r : Row) → i < length rows → r ≡ get_or rows i r → calls_of (take i rows) ≡ [] → event_of r ≡ None → calls_of (take (i + 1) rows) ≡ []
no_call_more rows i r low is none other =
    let next : i + 1 ≡ suc i = omega arith in
    ap calls_of (ap (λ n. take n rows) next ∙ take-suc rows i r low ∙ ap (λ x. take i rows ++ x ∷ []) (sym is)) ∙ none_more 1 [] (take i rows) r none other

some_more : (n : ℕ) (g rows : List Row) (r : Row) → event_of r ≢ None → calls_after n g (rows ++ r ∷ []) ≢ []
some_more n g [] (row.Event e) some none = cc
some_more n g [] r some none = some refl
some_more n g (row.Event e ∷ rows) r some none = cc
some_more n g (x ∷ rows) r some none = some_more n (g ++ x ∷ []) rows r some none

pub an_event : {A : Type 0} (o : Option A) (b : Bool) → b ≡ is_some o → b ≡ true → o ≢ None
an_event None b is true_is none = let bad : false ≡ true = sym is ∙ true_is in cc
an_event (Some x) b is true_is none = cc

-- the first row that is a call
pub first_call : (rows : List Row) (i : ℕ) (r : Row) → i < length rows → r ≡ get_or rows i r → event_of r ≢ None → calls_of (take (i + 1) rows) ≢ []
first_call rows i r low is some none =
    let next : i + 1 ≡ suc i = omega arith in
    let more = ap calls_of (ap (λ n. take n rows) next ∙ take-suc rows i r low ∙ ap (λ x. take i rows ++ x ∷ []) (sym is)) in
    some_more 1 [] (take i rows) r some (sym more ∙ none)

-- the fault of a text that has no rows
pub no_rows : {X : Type 0} (view : X → List Row) (text : List ℕ) (f : TextFault) → Tells view form.Day text (Err f) → OpensNone text (none.Fault f)
no_rows view text (fault.Row n c) is = inl (fault.Row n c, is, refl)
no_rows view text fault.TooLong is = inl (fault.TooLong, is, refl)
no_rows view text fault.ReadFailed is = inl (fault.ReadFailed, is, refl)
no_rows view text fault.OutOfMemory is = inl (fault.OutOfMemory, is, refl)

-- what an opening opened
pub opening_is : (text : List ℕ) (rows : List Row) (book : Kept) (count size : ℕ) → IsWithin text × (rows_of form.Day text ≡ Ok rows) → calls_of rows ≡ [] → IsClosed (strip_bom text) → OpensBook rows book
    → count ≡ length rows → size ≡ length text → OpensSo text book count size
opening_is text rows book count size reads none closed opens count_is size_is =
    let is = opens.is_opened.book_is in
    let day = ap (λ (k : Kept). k.day) is in
    let same : book ≡ record { day = book.day; history = [] } = is ∙ ap (λ (d : Day). record { day = d; history = [] }) (sym day) in
    record {
      rows = rows;
      opens = record { closed = closed; within = reads.0; reads = reads.1; no_call = none; opens = subst (OpensBook rows) same opens };
      new = ap (λ (k : Kept). k.history) is;
      count_is = count_is;
      size_is = size_is;
    }
