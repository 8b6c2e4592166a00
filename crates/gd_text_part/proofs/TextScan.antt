-- Reading records one after the other, as a loop does.
use Rattle.std.proofs.Common.{◌≡◌, ℕ, ◌+◌, ◌⊎◌, List, [], ◌∷◌, ◌++◌, Result, Ok, Err, refl, sym, ap, ◌∙◌, append_assoc}
use Rattle.std.proofs.lemmas.List.{append-nil}
use Rattle.gd_text_part.specs.Places.{row_of, at_end}
use Rattle.gd_text_part.specs.Rows.{◌>>=◌}
use Rattle.gd_text_part.specs.Findings.{Finds}
use Rattle.gd_text_part.specs.Texts.{BlamesNoRow, HasManyBytes, HasManyRows, IsWithin, Reads, Tells, rows_from, rows_of}
use Rattle.gd_text_part.specs.declared.fault.RowFault.{RowFault}
use Rattle.gd_text_part.specs.declared.fault.TextFault.{TextFault}
use Rattle.gd_text_part.specs.declared.fault.TextFault.TheVariants as fault
use Rattle.gd_text_part.specs.declared.kind.Form.{Form}
use Rattle.gd_text_part.specs.declared.order.Place.{Place}
use Rattle.gd_text_part.specs.declared.row.Row.{Row}

-- the rows that were read before, and those that are still to be read
abbrev pub with_front : List Row → Result (List Row) RowFault → Result (List Row) RowFault
with_front front read = read >>= λ rows. Ok (front ++ rows)

regroup : (front : List Row) (r : Row) (read : Result (List Row) RowFault) → with_front front (read >>= λ rows. Ok (r ∷ rows)) ≡ with_front (front ++ r ∷ []) read
regroup front r (Ok rows) = ap (λ (rs : List Row). Ok rs) (simp append_assoc)
regroup front r (Err e) = refl

pub goes_on : (form : Form) (place next : Place) (n : ℕ) (r : Row) (first : List (List ℕ)) (records : List (List (List ℕ))) (front : List Row) (total : Result (List Row) RowFault)
    → row_of form place (n + 1) first ≡ Ok (r, next) → with_front front (rows_from form place n (first ∷ records)) ≡ total
    → with_front (front ++ r ∷ []) (rows_from form next (n + 1) records) ≡ total
unfolding rows_from
goes_on form place next n r first records front total is so_far =
    let one : with_front front (rows_from form place n (first ∷ records)) ≡ with_front (front ++ r ∷ []) (rows_from form next (n + 1) records) = rw is (regroup front r (rows_from form next (n + 1) records)) in
    sym one ∙ so_far

stops : (form : Form) (place : Place) (n : ℕ) (e : RowFault) (first : List (List ℕ)) (records : List (List (List ℕ))) (front : List Row) (total : Result (List Row) RowFault)
    → row_of form place (n + 1) first ≡ Err e → with_front front (rows_from form place n (first ∷ records)) ≡ total → total ≡ Err e
unfolding rows_from
stops form place n e first records front total is so_far =
    let one : with_front front (rows_from form place n (first ∷ records)) ≡ Err e = rw is refl in
    sym so_far ∙ one

-- what is found wrong with a record is told of the text
pub refuses : {X : Type 0} (view : X → List Row) (form : Form) (text : List ℕ) (place : Place) (m n : ℕ) (e : TextFault) (first : List (List ℕ)) (records : List (List (List ℕ))) (front : List Row)
    → m ≡ n + 1 → IsWithin text → Finds (Err e) (row_of form place m first) → with_front front (rows_from form place n (first ∷ records)) ≡ rows_of form text → Tells view form text (Err e)
refuses view form text place m n fault.ReadFailed first records front same within found so_far = absurd found
refuses view form text place m n fault.TooLong first records front same within found so_far = absurd found
refuses view form text place m n (fault.Row k c) first records front same within found so_far =
    (within, stops form place n (record { row = k; cause = c }) first records front (rows_of form text) (rw same at found) so_far)
refuses view form text place m n fault.OutOfMemory first records front same within found so_far = tt

pub misses : (form : Form) (place : Place) (n : ℕ) (e : RowFault) (front : List Row) (total : Result (List Row) RowFault)
    → at_end place n ≡ Err e → with_front front (rows_from form place n []) ≡ total → total ≡ Err e
unfolding rows_from
misses form place n e front total is so_far =
    let one : with_front front (rows_from form place n []) ≡ Err e = rw is refl in
    sym so_far ∙ one

pub is_done : (form : Form) (place : Place) (n : ℕ) (front : List Row) (total : Result (List Row) RowFault)
    → at_end place n ≡ Ok tt → with_front front (rows_from form place n []) ≡ total → total ≡ Ok front
unfolding rows_from
is_done form place n front total is so_far =
    let one : with_front front (rows_from form place n []) ≡ Ok front = rw is (ap (λ (rs : List Row). Ok rs) (append-nil front)) in
    sym so_far ∙ one

-- what no row is blamed for may be answered
pub blames_no_row : {X : Type 0} (view : X → List Row) (form : Form) (text : List ℕ) (long : Type 0) (e : TextFault) → BlamesNoRow long e → (long → HasManyBytes text ⊎ HasManyRows text)
    → Reads view form text (Err e)
blames_no_row view form text long fault.ReadFailed h so = tt
blames_no_row view form text long fault.TooLong h so = so h
blames_no_row view form text long (fault.Row n c) h so = absurd h
blames_no_row view form text long fault.OutOfMemory h so = tt
