-- Rows of plain fields are the records of their text.
use Rattle.std.proofs.Common.{◌≡◌, ℕ, zero, suc, ◌+◌, ◌<◌, ◌≤◌, ◌==◌, ◌||◌, ◌&&◌, not, Bool, true, false, List, [], ◌∷◌, ◌++◌, length, Some, None, refl, sym, ap, ◌∙◌, arith, append-nil, map}
use Rattle.std.specs.List.{AllByRecursion, list_all, join_with_byte, flat_map}
use Rattle.std.proofs.lemmas.List.{append_assoc, length-append}
use Rattle.csv.specs.Machine.{next_record}
use Rattle.csv.specs.Reading.{default_config, records, records_from, records_next, strip_bom}
use Rattle.csv.specs.declared.parser.Config.{Config}
use Rattle.csv.specs.declared.parser.State.TheVariants as st
use Rattle.gd_text_part.specs.Csv.{records_of}
use Rattle.gd_body.specs.Rows.{Fields, whole, lines_of}
use Rattle.gd_body.proofs.Plain.{is_plain, IsPlain, begins_plainly, IsPlainRow}

-- a row whose fields are all there
abbrev joined : Fields → List ℕ
joined fields = join_with_byte 44 fields ++ 10 ∷ []

abbrev texts : List Fields → List ℕ
texts rows = flat_map joined rows

abbrev cfg : Config
cfg = default_config

pub record Apart (c : ℕ) : Type 0 where
  pub comma : (c == 44) ≡ false
  pub quote : (c == 34) ≡ false
  pub cr : (c == 13) ≡ false
  pub lf : (c == 10) ≡ false

neither : (a b : Bool) → not (a || b) ≡ true → (a ≡ false) × (not b ≡ true)
neither true b h = absurd cc
neither false b h = (refl, h)

is_false : (a : Bool) → not a ≡ true → a ≡ false
is_false true h = absurd cc
is_false false h = refl

apart : (c : ℕ) → is_plain c ≡ true → Apart c
apart c h =
    let one = neither (c == 44) _ h in
    let two = neither (c == 34) _ one.1 in
    let three = neither (c == 13) (c == 10) two.1 in
    record { comma = one.0; quote = two.0; cr = three.0; lf = is_false (c == 10) three.1 }

both : (a b : Bool) → (a && b) ≡ true → (a ≡ true) × (b ≡ true)
both true b h = (refl, h)
both false b h = absurd cc

-- within a field plain bytes join it
runs : (bytes rest : List ℕ) → IsPlain bytes → (fields : Fields) (field : List ℕ)
    → next_record cfg st.InField fields field (bytes ++ rest) ≡ next_record cfg st.InField fields (field ++ bytes) rest
unfolding next_record
runs [] rest plain fields field = ap (λ (f : List ℕ). next_record cfg st.InField fields f rest) (sym (append-nil field))
runs (c ∷ bytes) rest plain fields field =
    let p = both (is_plain c) (list_all is_plain bytes) plain in
    let far = apart c p.0 in
    rw (far.comma, far.cr, far.lf) (runs bytes rest p.1 fields (field ++ c ∷ []) ∙ ap (λ (f : List ℕ). next_record cfg st.InField fields f rest) (append_assoc field (c ∷ []) bytes))

-- the first plain byte of a field
starts : (c : ℕ) (rest : List ℕ) → Apart c → (fields : Fields) → next_record cfg st.StartField fields [] (c ∷ rest) ≡ next_record cfg st.InField fields (c ∷ []) rest
unfolding next_record
starts c rest far fields = rw (far.quote, far.comma, far.cr, far.lf) refl

-- a field ends at a comma
field_ends : (field rest : List ℕ) → IsPlain field → (fields : Fields) → next_record cfg st.StartField fields [] (field ++ 44 ∷ rest) ≡ next_record cfg st.StartField (fields ++ field ∷ []) [] rest
unfolding next_record
field_ends [] rest plain fields = refl
field_ends (c ∷ bytes) rest plain fields =
    let p = both (is_plain c) (list_all is_plain bytes) plain in
    starts c (bytes ++ 44 ∷ rest) (apart c p.0) fields ∙ runs bytes (44 ∷ rest) p.1 fields (c ∷ [])

-- a record ends at a line feed
record_ends : (field rest : List ℕ) → IsPlain field → (fields : Fields) → next_record cfg st.StartField fields [] (field ++ 10 ∷ rest) ≡ Some (fields ++ field ∷ [], st.StartRecord, rest)
unfolding next_record
record_ends [] rest plain fields = refl
record_ends (c ∷ bytes) rest plain fields =
    let p = both (is_plain c) (list_all is_plain bytes) plain in
    starts c (bytes ++ 10 ∷ rest) (apart c p.0) fields ∙ runs bytes (10 ∷ rest) p.1 fields (c ∷ [])

fields_end : (field : List ℕ) (fields : Fields) (rest : List ℕ) → AllByRecursion IsPlain (field ∷ fields) → (before : Fields)
    → next_record cfg st.StartField before [] (join_with_byte 44 (field ∷ fields) ++ 10 ∷ rest) ≡ Some (before ++ field ∷ fields, st.StartRecord, rest)
fields_end field [] rest plain before = record_ends field rest plain.0 before
fields_end field (next ∷ fields) rest plain before =
    let more : List ℕ = join_with_byte 44 (next ∷ fields) in
    ap (next_record cfg st.StartField before []) (append_assoc field (44 ∷ more) (10 ∷ rest))
    ∙ field_ends field (more ++ 10 ∷ rest) plain.0 before
    ∙ fields_end next fields rest plain.1 (before ++ field ∷ [])
    ∙ ap (λ (f : Fields). Some (f, st.StartRecord, rest)) (append_assoc before (field ∷ []) (next ∷ fields))

-- a record begins as a field does
begins : (c : ℕ) (rest : List ℕ) → Apart c → next_record cfg st.StartRecord [] [] (c ∷ rest) ≡ next_record cfg st.StartField [] [] (c ∷ rest)
unfolding next_record
begins c rest far = rw (far.cr, far.lf) refl

-- a row is the next record
row_is : (fields : Fields) (rest : List ℕ) → IsPlainRow fields → next_record cfg st.StartRecord [] [] (joined fields ++ rest) ≡ Some (fields, st.StartRecord, rest)
row_is [] rest row = absurd (let e : false ≡ true = row.begins in cc)
row_is ([] ∷ fields) rest row = absurd (let e : false ≡ true = row.begins in cc)
row_is ((c ∷ bytes) ∷ []) rest row =
    let p = both (is_plain c) (list_all is_plain bytes) row.plain.0 in
    ap (next_record cfg st.StartRecord [] []) (append_assoc (c ∷ bytes) (10 ∷ []) rest)
    ∙ begins c (bytes ++ 10 ∷ rest) (apart c p.0)
    ∙ fields_end (c ∷ bytes) [] rest row.plain []
row_is ((c ∷ bytes) ∷ next ∷ fields) rest row =
    let p = both (is_plain c) (list_all is_plain bytes) row.plain.0 in
    ap (next_record cfg st.StartRecord [] []) (append_assoc (join_with_byte 44 ((c ∷ bytes) ∷ next ∷ fields)) (10 ∷ []) rest)
    ∙ begins c ((bytes ++ 44 ∷ join_with_byte 44 (next ∷ fields)) ++ 10 ∷ rest) (apart c p.0)
    ∙ fields_end (c ∷ bytes) (next ∷ fields) rest row.plain []

nothing_left : next_record cfg st.StartRecord [] [] [] ≡ None
unfolding next_record
nothing_left = refl

rows_are : (rows : List Fields) → AllByRecursion IsPlainRow rows → (n : ℕ) → length rows < n → records_from cfg n st.StartRecord (texts rows) ≡ rows
unfolding records_from
rows_are rows all zero few = absurd (omega arith)
rows_are [] all (suc n) few = ap (records_next (records_from cfg n)) nothing_left
rows_are (row ∷ rows) all (suc n) few =
    ap (records_next (records_from cfg n)) (row_is row (texts rows) all.0) ∙ ap (λ (l : List Fields). row ∷ l) (rows_are rows all.1 n (omega arith))

long : (rows : List Fields) → length rows ≤ length (texts rows)
long [] = omega arith
long (row ∷ rows) =
    let here : length (joined row) ≡ length (join_with_byte 44 row) + 1 = length-append (join_with_byte 44 row) (10 ∷ []) in
    let all : length (texts (row ∷ rows)) ≡ length (joined row) + length (texts rows) = length-append (joined row) (texts rows) in
    omega (arith, long rows)

unmarked : (c : ℕ) (rest : List ℕ) → (c == 239) ≡ false → strip_bom (c ∷ rest) ≡ c ∷ rest
unfolding strip_bom
unmarked c [] far = refl
unmarked c (a ∷ []) far = refl
unmarked c (a ∷ b ∷ rest) far = rw far refl

row_unmarked : (row : Fields) (rest : List ℕ) → begins_plainly row ≡ true → strip_bom (joined row ++ rest) ≡ joined row ++ rest
row_unmarked [] rest h = absurd (let e : false ≡ true = h in cc)
row_unmarked ([] ∷ fields) rest h = absurd (let e : false ≡ true = h in cc)
row_unmarked ((c ∷ bytes) ∷ []) rest h = unmarked c _ (is_false (c == 239) h)
row_unmarked ((c ∷ bytes) ∷ next ∷ fields) rest h = unmarked c _ (is_false (c == 239) h)

none_unmarked : strip_bom [] ≡ []
unfolding strip_bom
none_unmarked = refl

text_unmarked : (rows : List Fields) → AllByRecursion IsPlainRow rows → strip_bom (texts rows) ≡ texts rows
text_unmarked [] all = none_unmarked
text_unmarked (row ∷ rows) all = row_unmarked row (texts rows) all.0.begins

whole_plain : (rows : List Fields) → AllByRecursion (λ r. IsPlainRow (whole r)) rows → AllByRecursion IsPlainRow (map whole rows)
whole_plain [] all = tt
whole_plain (row ∷ rows) all = (all.0, whole_plain rows all.1)

whole_texts : (rows : List Fields) → lines_of rows ≡ texts (map whole rows)
whole_texts [] = refl
whole_texts (row ∷ rows) = ap (λ l. joined (whole row) ++ l) (whole_texts rows)

-- the records of rows are the rows, each with all its fields
pub rows_are_records : (rows : List Fields) → AllByRecursion (λ r. IsPlainRow (whole r)) rows → records_of (lines_of rows) ≡ map whole rows
rows_are_records rows all =
    let plain = whole_plain rows all in
    ap records_of (whole_texts rows)
    ∙ ap (records cfg) (text_unmarked (map whole rows) plain)
    ∙ rows_are (map whole rows) plain (length (texts (map whole rows)) + 1) (let l = long (map whole rows) in omega arith)
