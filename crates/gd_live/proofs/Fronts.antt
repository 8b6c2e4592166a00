-- Rows of records behind records.
use Rattle.std.proofs.Common.{◌≡◌, ℕ, ◌+◌, List, [], ◌∷◌, ◌++◌, length, Result, Ok, Err, refl, ap, ◌∙◌, arith}
use Rattle.gd_text_part.specs.Places.{row_of}
use Rattle.gd_text_part.specs.Rows.{◌>>=◌}
use Rattle.gd_text_part.specs.Texts.{rows_from}
use Rattle.gd_text_part.specs.declared.fault.RowFault.{RowFault}
use Rattle.gd_text_part.specs.declared.kind.Form.{Form}
use Rattle.gd_text_part.specs.declared.order.Place.{Place}
use Rattle.gd_text_part.specs.declared.row.Row.{Row}
use Rattle.gd_live.specs.Fronts.{front_from, longer_front, ended_front}

abbrev Front : Type 0
Front = Result (List Row × Place) RowFault

-- a row in front of what is found, and rows in front of it
abbrev row_then : Row → List Row × Place → Front
row_then row it = Ok (row ∷ it.0, it.1)

abbrev rows_then : List Row → List Row × Place → Front
rows_then rows it = Ok (rows ++ it.0, it.1)

-- what is found of records behind no row
alone : (r : Result (List Row) RowFault) → r ≡ (r >>= λ rows. Ok ([] ++ rows))
alone (Ok rows) = refl
alone (Err e) = refl

alone_front : (r : Front) → r ≡ (r >>= rows_then [])
alone_front (Ok rest) = refl
alone_front (Err e) = refl

-- a row in front of all
row_first : (row : Row) (rows : List Row) (r : Result (List Row) RowFault)
    → ((r >>= λ rest. Ok (rows ++ rest)) >>= λ rest. Ok (row ∷ rest)) ≡ (r >>= λ rest. Ok ((row ∷ rows) ++ rest))
row_first row rows (Ok rest) = refl
row_first row rows (Err e) = refl

row_first_front : (row : Row) (rows : List Row) (r : Front)
    → ((r >>= rows_then rows) >>= row_then row) ≡ (r >>= rows_then (row ∷ rows))
row_first_front row rows (Ok rest) = refl
row_first_front row rows (Err e) = refl

moved : (form : Form) (row : Row) (front : Front) (n : ℕ) (more : List (List (List ℕ)))
    → (ended_front form front n more >>= λ rows. Ok (row ∷ rows)) ≡ ended_front form (front >>= row_then row) n more
moved form row (Err e) n more = refl
moved form row (Ok it) n more = row_first row it.0 (rows_from form it.1 n more)

moved_front : (form : Form) (row : Row) (front : Front) (n : ℕ) (more : List (List (List ℕ)))
    → (longer_front form front n more >>= row_then row) ≡ longer_front form (front >>= row_then row) n more
moved_front form row (Err e) n more = refl
moved_front form row (Ok it) n more = row_first_front row it.0 (front_from form it.1 n more)

-- the first of the records is taken, and the others are joined
first : (form : Form) (r : Result (Row × Place) RowFault) (records more : List (List (List ℕ))) (n m : ℕ) → n + 1 + length records ≡ m
    → ((place : Place) → rows_from form place (n + 1) (records ++ more) ≡ ended_front form (front_from form place (n + 1) records) (n + 1 + length records) more)
    → (r >>= λ taken. rows_from form taken.1 (n + 1) (records ++ more) >>= λ rows. Ok (taken.0 ∷ rows))
    ≡ ended_front form (r >>= λ taken. front_from form taken.1 (n + 1) records >>= row_then taken.0) m more
first form (Err e) records more n m count joined = refl
first form (Ok it) records more n m count joined =
    let front = front_from form it.1 (n + 1) records in
    ap (λ (r : Result (List Row) RowFault). r >>= λ rows. Ok (it.0 ∷ rows)) (joined it.1) ∙ moved form it.0 front (n + 1 + length records) more
    ∙ ap (λ k. ended_front form (front >>= row_then it.0) k more) count

first_front : (form : Form) (r : Result (Row × Place) RowFault) (records more : List (List (List ℕ))) (n m : ℕ) → n + 1 + length records ≡ m
    → ((place : Place) → front_from form place (n + 1) (records ++ more) ≡ longer_front form (front_from form place (n + 1) records) (n + 1 + length records) more)
    → (r >>= λ taken. front_from form taken.1 (n + 1) (records ++ more) >>= row_then taken.0)
    ≡ longer_front form (r >>= λ taken. front_from form taken.1 (n + 1) records >>= row_then taken.0) m more
first_front form (Err e) records more n m count joined = refl
first_front form (Ok it) records more n m count joined =
    let front = front_from form it.1 (n + 1) records in
    ap (λ (r : Front). r >>= row_then it.0) (joined it.1) ∙ moved_front form it.0 front (n + 1 + length records) more
    ∙ ap (λ k. longer_front form (front >>= row_then it.0) k more) count

-- the rows of records behind records are those of the first, and then those of the others from where these leave off
pub rows_join : (form : Form) (place : Place) (n : ℕ) (records more : List (List (List ℕ)))
    → rows_from form place n (records ++ more) ≡ ended_front form (front_from form place n records) (n + length records) more
unfolding rows_from
rows_join form place n [] more = let still : n ≡ n + 0 = omega arith in ap (λ m. rows_from form place m more) still ∙ alone (rows_from form place (n + 0) more)
rows_join form place n (fields ∷ records) more =
    let count : n + 1 + length records ≡ n + length (fields ∷ records) = omega arith in
    first form (row_of form place (n + 1) fields) records more n (n + length (fields ∷ records)) count (λ next. rows_join form next (n + 1) records more)

pub fronts_join : (form : Form) (place : Place) (n : ℕ) (records more : List (List (List ℕ)))
    → front_from form place n (records ++ more) ≡ longer_front form (front_from form place n records) (n + length records) more
fronts_join form place n [] more = let still : n ≡ n + 0 = omega arith in ap (λ m. front_from form place m more) still ∙ alone_front (front_from form place (n + 0) more)
fronts_join form place n (fields ∷ records) more =
    let count : n + 1 + length records ≡ n + length (fields ∷ records) = omega arith in
    first_front form (row_of form place (n + 1) fields) records more n (n + length (fields ∷ records)) count (λ next. fronts_join form next (n + 1) records more)
