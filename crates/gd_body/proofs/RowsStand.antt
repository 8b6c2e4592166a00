-- Rows that stand in the order of a posting are read one after the other.
use Rattle.std.proofs.Common.{◌≡◌, ℕ, ◌+◌, ◌<◌, ◌≤◌, ◌^◌, ◌==◌, nat_le, Bool, true, false, List, [], ◌∷◌, ◌++◌, length, map, Ok, All, refl, if◌then◌else◌, arith}
use Rattle.std.specs.Prelude.{ℤ, codes, unsigned_abs}
use Rattle.std.specs.Fmt.{decimal, signed_decimal}
use Rattle.std.specs.List.{AllByRecursion, AllZip, enumerate_from}
use Rattle.std.proofs.lemmas.Bool.Decides.{nat_tests}
use Rattle.std.proofs.lemmas.List.Elements.{All-head, All-tail}
use Rattle.csv.specs.Records.{field_at}
use Rattle.gd_rules.specs.Limits.{cycles, most_rounds, classes}
use Rattle.gd_text_part.specs.Places.{start, row_of, kind_at, stands, body, after}
use Rattle.gd_text_part.specs.Texts.{rows_from}
use Rattle.gd_text_part.specs.declared.kind.Form.TheVariants as form
use Rattle.gd_text_part.specs.declared.kind.RowKind.{RowKind}
use Rattle.gd_text_part.specs.declared.kind.RowKind.TheVariants as kind
use Rattle.gd_text_part.specs.declared.row.Row.{Row}
use Rattle.gd_text_part.specs.declared.row.Row.TheVariants as row
use Rattle.gd_text_part.specs.declared.row.PipelineRow.TheVariants as pipeline
use Rattle.gd_text_part.specs.declared.row.QuestionRow.TheVariants as question
use Rattle.gd_units.specs.declared.service.Kind.TheVariants as way
use Rattle.gd_body.specs.Publishable.{IsName, IsQuantity, IsShort}
use Rattle.gd_body.specs.Rows.{Fields, whole, segment_fields, point_fields, pool_fields, words_row, sched_row}
use Rattle.gd_body.proofs.Plain.{IsPlain, IsPlainRow, IsShortField}
use Rattle.gd_body.proofs.PlainFields.{name_plain, name_short, decimal_plain, decimal_short, signed_plain, signed_short}
use Rattle.gd_body.proofs.RowsRead.{segment_is, receipt_is, delivery_is, pool_is, question_is, capacity_is, line_is, sched_is, price_is, bumped_is}

-- the type of places, which has no name outside its crate
abbrev type_of : {A : Type 0} → A → Type 0
type_of {A} value = A

abbrev Place : Type 0
Place = type_of start

-- where the rows stand: behind a stage, with a head or without, and behind so many `sched` rows
abbrev pub at : ℕ → Bool → ℕ → Place
at stage headed scheds = record start { stage = stage; headed = headed; scheds = scheds }

-- a row of a kind that may stand there
taken : (place : Place) (n : ℕ) (fields : Fields) (k : RowKind) (r : Row) (next : Place) → kind_at form.Body fields ≡ Ok k → stands form.Body place n k ≡ Ok tt
    → body form.Body k place fields ≡ Ok r → after form.Body place n k r ≡ Ok next → row_of form.Body place n fields ≡ Ok (r, next)
taken place n fields k r next a b c d = rw (a, b, c, d) refl

-- the row that the fields say stands behind these stages, and leaves this one
pub record Says (headed : Bool) (stage : ℕ) (fields : Fields) (r : Row) : Type 0 where
  pub plain : IsPlainRow (whole fields)
  pub read : (behind scheds n : ℕ) → behind ≤ stage → row_of form.Body (at behind headed scheds) n (whole fields) ≡ Ok (r, at stage headed 0)

quantity_plain : (n : ℕ) → IsQuantity n → IsPlain (decimal n)
quantity_plain n small = decimal_plain n (omega arith)

quantity_short : (n : ℕ) → IsQuantity n → IsShortField (decimal n)
quantity_short n small = decimal_short n (omega arith)

spread_short : (z : ℤ) (none : Bool) → IsShort z → IsShortField (if none then [] else signed_decimal z)
spread_short z true small = refl
spread_short z false small = signed_short z small

spread_plain : (z : ℤ) (none : Bool) → IsShort z → IsPlain (if none then [] else signed_decimal z)
spread_plain z true small = refl
spread_plain z false small = signed_plain z small

within : (a b : ℕ) → a ≤ b → nat_le a b ≡ true
within a b low = grind (arith, nat_tests)

pub segment_says : (n from to : List ℕ) (capacity : ℕ) → IsName n → IsName from → IsName to → IsQuantity capacity
    → Says false 1 (segment_fields n from to capacity) (row.Pipeline (pipeline.Segment n from to capacity))
unfolding field_at
segment_says n from to capacity a b c d = record {
  plain = record { eight = refl; short = (refl, (name_short n a, (name_short from b, (name_short to c, (quantity_short capacity d, (refl, (refl, (refl, tt)))))))); begins = refl; plain = (refl, (name_plain n a, (name_plain from b, (name_plain to c, (quantity_plain capacity d, (refl, (refl, (refl, tt)))))))) };
  read = λ behind scheds i low.
      taken (at behind false scheds) i _ kind.Segment _ _ refl (rw (within behind 1 low) refl) (segment_is n from to capacity a b c d) refl;
}

pub receipt_says : (n place operator : List ℕ) (capacity : ℕ) → IsName n → IsName place → IsName operator → IsQuantity capacity
    → Says false 1 (point_fields n (codes "receipt") place operator capacity) (row.Pipeline (pipeline.Point n way.Receipt place operator capacity))
unfolding field_at
receipt_says n place operator capacity a b c d = record {
  plain = record { eight = refl; short = (refl, (name_short n a, (refl, (name_short place b, (name_short operator c, (quantity_short capacity d, (refl, (refl, tt)))))))); begins = refl; plain = (refl, (name_plain n a, (refl, (name_plain place b, (name_plain operator c, (quantity_plain capacity d, (refl, (refl, tt)))))))) };
  read = λ behind scheds i low.
      taken (at behind false scheds) i _ kind.Point _ _ refl (rw (within behind 1 low) refl) (receipt_is n place operator capacity a b c d) refl;
}

pub delivery_says : (n place operator : List ℕ) (capacity : ℕ) → IsName n → IsName place → IsName operator → IsQuantity capacity
    → Says false 1 (point_fields n (codes "delivery") place operator capacity) (row.Pipeline (pipeline.Point n way.Delivery place operator capacity))
unfolding field_at
delivery_says n place operator capacity a b c d = record {
  plain = record { eight = refl; short = (refl, (name_short n a, (refl, (name_short place b, (name_short operator c, (quantity_short capacity d, (refl, (refl, tt)))))))); begins = refl; plain = (refl, (name_plain n a, (refl, (name_plain place b, (name_plain operator c, (quantity_plain capacity d, (refl, (refl, tt)))))))) };
  read = λ behind scheds i low.
      taken (at behind false scheds) i _ kind.Point _ _ refl (rw (within behind 1 low) refl) (delivery_is n place operator capacity a b c d) refl;
}

pub pool_says : (n place operator : List ℕ) → IsName n → IsName place → IsName operator
    → Says false 1 (pool_fields n place operator) (row.Pipeline (pipeline.Pool n place operator))
unfolding field_at
pool_says n place operator a b c = record {
  plain = record { eight = refl; short = (refl, (name_short n a, (name_short place b, (name_short operator c, (refl, (refl, (refl, (refl, tt)))))))); begins = refl; plain = (refl, (name_plain n a, (name_plain place b, (name_plain operator c, (refl, (refl, (refl, (refl, tt)))))))) };
  read = λ behind scheds i low.
      taken (at behind false scheds) i _ kind.Pool _ _ refl (rw (within behind 1 low) refl) (pool_is n place operator a b c) refl;
}

pub head_read : (book : List ℕ) (cycle round behind n : ℕ) → IsName book → (1 ≤ cycle) × (cycle ≤ cycles) → (1 ≤ round) × (round ≤ most_rounds) → behind ≤ 3
    → row_of form.Body (at behind false 0) n (whole (codes "question" ∷ book ∷ decimal cycle ∷ decimal round ∷ [])) ≡ Ok (row.Question (question.Head book cycle round), at 3 true 0)
unfolding field_at
head_read book cycle round behind n a b c low =
    taken (at behind false 0) n _ kind.Question _ _ refl (rw (within behind 3 low) refl) (question_is book cycle round a b c) refl

pub capacity_says : (element : List ℕ) (limit : ℕ) → IsName element → IsQuantity limit
    → Says true 4 (codes "capacity" ∷ element ∷ decimal limit ∷ []) (row.Question (question.Capacity element limit))
unfolding field_at
capacity_says element limit a b = record {
  plain = record { eight = refl; short = (refl, (name_short element a, (quantity_short limit b, (refl, (refl, (refl, (refl, (refl, tt)))))))); begins = refl; plain = (refl, (name_plain element a, (quantity_plain limit b, (refl, (refl, (refl, (refl, (refl, tt)))))))) };
  read = λ behind scheds i low.
      taken (at behind true scheds) i _ kind.Capacity _ _ refl (rw (within behind 4 low) refl) (capacity_is element limit a b) refl;
}

pub line_says : (origin dest : List ℕ) (class floor ceiling : ℕ) → IsName origin → IsName dest → class ≤ classes → IsQuantity floor → IsQuantity ceiling
    → Says true 5 (codes "line" ∷ origin ∷ dest ∷ decimal class ∷ decimal floor ∷ decimal ceiling ∷ []) (row.Question (question.Line origin dest class floor ceiling))
unfolding field_at
line_says origin dest class floor ceiling a b c d e = record {
  plain = record { eight = refl; short = (refl, (name_short origin a, (name_short dest b, (decimal_short class (omega arith), (quantity_short floor d, (quantity_short ceiling e, (refl, (refl, tt)))))))); begins = refl; plain = (refl, (name_plain origin a, (name_plain dest b, (decimal_plain class (omega arith), (quantity_plain floor d, (quantity_plain ceiling e, (refl, (refl, tt)))))))) };
  read = λ behind scheds i low.
      taken (at behind true scheds) i _ kind.Line _ _ refl (rw (within behind 5 low) refl) (line_is origin dest class floor ceiling a b c d e) refl;
}

pub price_says : (element : List ℕ) (level : ℕ) (word spread : ℤ) → IsName element → (1 ≤ level) × (level ≤ classes) → IsShort word → IsShort spread
    → Says true 7 (words_row element level word spread) (row.Price element level word spread)
unfolding field_at
price_says element level word spread a b c d = record {
  plain = record { eight = refl; short = (refl, (name_short element a, (decimal_short level (omega (arith, b)), (signed_short word c, (spread_short spread (unsigned_abs spread == 0) d, (refl, (refl, (refl, tt)))))))); begins = refl; plain = (refl, (name_plain element a, (decimal_plain level (omega (arith, b)), (signed_plain word c, (spread_plain spread (unsigned_abs spread == 0) d, (refl, (refl, (refl, tt)))))))) };
  read = λ behind scheds i low.
      taken (at behind true scheds) i _ kind.Price _ _ refl (rw (within behind 7 low) refl) (price_is element level word spread a b c d) refl;
}

pub bumped_says : (line taken_off : ℕ) → line < 4_294_967_295 → IsQuantity taken_off
    → Says true 8 (codes "bumped" ∷ decimal (line + 1) ∷ decimal taken_off ∷ []) (row.Bumped (line + 1) taken_off)
unfolding field_at
bumped_says line taken_off a b = record {
  plain = record { eight = refl; short = (refl, (decimal_short (line + 1) (omega arith), (quantity_short taken_off b, (refl, (refl, (refl, (refl, (refl, tt)))))))); begins = refl; plain = (refl, (decimal_plain (line + 1) (omega arith), (quantity_plain taken_off b, (refl, (refl, (refl, (refl, (refl, tt)))))))) };
  read = λ behind scheds i low.
      taken (at behind true scheds) i _ kind.Bumped _ _ refl (rw (within behind 8 low) refl) (bumped_is line taken_off a b) refl;
}

pub head_plain : (book : List ℕ) (cycle round : ℕ) → IsName book → cycle ≤ cycles → round ≤ most_rounds
    → IsPlainRow (whole (codes "question" ∷ book ∷ decimal cycle ∷ decimal round ∷ []))
head_plain book cycle round a b c =
    record { eight = refl; short = (refl, (name_short book a, (decimal_short cycle (omega arith), (decimal_short round (omega arith), (refl, (refl, (refl, (refl, tt)))))))); begins = refl; plain = (refl, (name_plain book a, (decimal_plain cycle (omega arith), (decimal_plain round (omega arith), (refl, (refl, (refl, (refl, tt)))))))) }

pub sched_plain : (line quantity : ℕ) → line < 10 ^ 18 → IsQuantity quantity → IsPlainRow (whole (sched_row (line, quantity)))
sched_plain line quantity a b =
    record { eight = refl; short = (refl, (decimal_short line a, (quantity_short quantity b, (refl, (refl, (refl, (refl, (refl, tt)))))))); begins = refl; plain = (refl, (decimal_plain line a, (quantity_plain quantity b, (refl, (refl, (refl, (refl, (refl, tt)))))))) }

-- the `sched` row of the next line
sched_read : (behind scheds n quantity : ℕ) → behind ≤ 6 → scheds + 1 < 10 ^ 18 → IsQuantity quantity
    → row_of form.Body (at behind true scheds) n (whole (codes "sched" ∷ decimal (scheds + 1) ∷ decimal quantity ∷ [])) ≡ Ok (row.Sched (scheds + 1) quantity, at 6 true (scheds + 1))
unfolding field_at
sched_read behind scheds n quantity low few a =
    taken (at behind true scheds) n _ kind.Sched _ _ refl (rw (within behind 6 low) refl) (sched_is (scheds + 1) quantity few a) refl

-- one record more
pub rows_more : (place next : Place) (n : ℕ) (fields : List (List ℕ)) (records : List (List (List ℕ))) (r : Row) (rows : List Row) → row_of form.Body place (n + 1) fields ≡ Ok (r, next)
    → rows_from form.Body next (n + 1) records ≡ Ok rows → rows_from form.Body place n (fields ∷ records) ≡ Ok (r ∷ rows)
unfolding rows_from
rows_more place next n fields records r rows here rest = rw (here, rest) refl

-- what the records behind this stage are
pub record Follows (headed : Bool) (stage : ℕ) (records : List (List (List ℕ))) (rows : List Row) : Type 0 where
  pub read : (behind scheds n : ℕ) → behind ≤ stage → rows_from form.Body (at behind headed scheds) n records ≡ Ok rows

-- rows of one stage, and those behind them
pub stage_read : (headed : Bool) (stage : ℕ) (fields : List Fields) (said : List Row) (records : List (List (List ℕ))) (rows : List Row) → AllZip (Says headed stage) fields said
    → Follows headed stage records rows → Follows headed stage (map whole fields ++ records) (said ++ rows)
stage_read headed stage [] [] records rows all follow = follow
stage_read headed stage [] (r ∷ said) records rows all follow = absurd all
stage_read headed stage (f ∷ fields) [] records rows all follow = absurd all
stage_read headed stage (f ∷ fields) (r ∷ said) records rows all follow =
    let rest = stage_read headed stage fields said records rows all.1 follow in
    record {
      read = λ behind scheds n low.
          rows_more (at behind headed scheds) (at stage headed 0) n (whole f) (map whole fields ++ records) r (said ++ rows) (all.0.read behind scheds (n + 1) low) (rest.read stage 0 (n + 1) (omega arith));
    }

-- the same behind no `sched` row
pub record Starts (headed : Bool) (stage : ℕ) (records : List (List (List ℕ))) (rows : List Row) : Type 0 where
  pub read : (behind n : ℕ) → behind ≤ stage → rows_from form.Body (at behind headed 0) n records ≡ Ok rows

pub stage_starts : (headed : Bool) (stage : ℕ) (fields : List Fields) (said : List Row) (records : List (List (List ℕ))) (rows : List Row) → AllZip (Says headed stage) fields said
    → Starts headed stage records rows → Starts headed stage (map whole fields ++ records) (said ++ rows)
stage_starts headed stage [] [] records rows all follow = follow
stage_starts headed stage [] (r ∷ said) records rows all follow = absurd all
stage_starts headed stage (f ∷ fields) [] records rows all follow = absurd all
stage_starts headed stage (f ∷ fields) (r ∷ said) records rows all follow =
    let rest = stage_starts headed stage fields said records rows all.1 follow in
    record {
      read = λ behind n low.
          rows_more (at behind headed 0) (at stage headed 0) n (whole f) (map whole fields ++ records) r (said ++ rows) (all.0.read behind 0 (n + 1) low) (rest.read stage (n + 1) (omega arith));
    }

pub starts_lower : (headed : Bool) (low high : ℕ) (records : List (List (List ℕ))) (rows : List Row) → low ≤ high → Starts headed high records rows → Starts headed low records rows
starts_lower headed low high records rows le follow = record { read = λ behind n h. follow.read behind n (omega arith) }

-- the head, and what stands behind it
pub head_starts : (book : List ℕ) (cycle round : ℕ) (records : List (List (List ℕ))) (rows : List Row) → IsName book → (1 ≤ cycle) × (cycle ≤ cycles) → (1 ≤ round) × (round ≤ most_rounds)
    → Starts true 4 records rows
    → Starts false 1 (whole (codes "question" ∷ book ∷ decimal cycle ∷ decimal round ∷ []) ∷ records) (row.Question (question.Head book cycle round) ∷ rows)
head_starts book cycle round records rows a b c rest = record {
  read = λ behind n low.
      rows_more (at behind false 0) (at 3 true 0) n _ records _ rows (head_read book cycle round behind (n + 1) a b c (omega arith)) (rest.read 3 (n + 1) (omega arith));
}

-- a lower stage may follow where a higher may
pub follows_lower : (headed : Bool) (low high : ℕ) (records : List (List (List ℕ))) (rows : List Row) → low ≤ high → Follows headed high records rows → Follows headed low records rows
follows_lower headed low high records rows le follow = record { read = λ behind scheds n h. follow.read behind scheds n (omega arith) }

-- no record is left behind the head
pub none_left : (stage : ℕ) → Follows true stage [] []
unfolding rows_from
none_left stage = record { read = λ behind scheds n low. refl }

-- the rows of a schedule, from this line on
scheds_read : (schedule : List ℕ) (k behind n : ℕ) (records : List (List (List ℕ))) (rows : List Row) → All IsQuantity schedule → behind ≤ 6 → k + length schedule < 10 ^ 18 → Follows true 6 records rows
    → rows_from form.Body (at behind true k) n (map whole (map sched_row (enumerate_from (k + 1) schedule)) ++ records) ≡ Ok (map (λ s. row.Sched s.0 s.1) (enumerate_from (k + 1) schedule) ++ rows)
scheds_read [] k behind n records rows all low few follow = follow.read behind k n low
scheds_read (q ∷ schedule) k behind n records rows all low few follow =
    rows_more (at behind true k) (at 6 true (k + 1)) n _ _ (row.Sched (k + 1) q) _
    (sched_read behind k (n + 1) q low (omega arith) (All-head IsQuantity q schedule all))
    (scheds_read schedule (k + 1) 6 (n + 1) records rows (All-tail IsQuantity q schedule all) (omega arith) (omega arith) follow)

-- behind a stage below theirs the lines are counted from 1
pub scheds_follow : (schedule : List ℕ) (records : List (List (List ℕ))) (rows : List Row) → All IsQuantity schedule → length schedule < 10 ^ 18 → Follows true 6 records rows
    → Starts true 5 (map whole (map sched_row (enumerate_from 1 schedule)) ++ records) (map (λ s. row.Sched s.0 s.1) (enumerate_from 1 schedule) ++ rows)
scheds_follow schedule records rows all few follow = record { read = λ behind n low. scheds_read schedule 0 behind n records rows all (omega arith) (omega arith) follow }

pub scheds_plain : (schedule : List ℕ) (k : ℕ) → All IsQuantity schedule → k + length schedule < 10 ^ 18 → AllByRecursion (λ r. IsPlainRow (whole r)) (map sched_row (enumerate_from (k + 1) schedule))
scheds_plain [] k all few = tt
scheds_plain (q ∷ schedule) k all few =
    (sched_plain (k + 1) q (omega arith) (All-head IsQuantity q schedule all), scheds_plain schedule (k + 1) (All-tail IsQuantity q schedule all) (omega arith))
