-- Each row that is printed is read as what it says.
use Rattle.std.proofs.Common.{◌≡◌, ℕ, ◌+◌, ◌^◌, ◌<◌, ◌≤◌, ◌==◌, ◌&&◌, nat_le, Bool, true, false, List, [], ◌∷◌, length, Some, Ok, refl, sym, ap, ◌∙◌, if◌then◌else◌, arith}
use Rattle.std.specs.Prelude.{ℤ, pos, negsuc, unsigned_abs, codes}
use Rattle.std.specs.Fmt.{decimal, signed_decimal}
use Rattle.std.proofs.lemmas.Bool.Decides.{nat_tests}
use Rattle.csv.specs.Records.{field_at}
use Rattle.gd_rules.specs.Limits.{most_dekatherms, cycles, most_rounds, classes}
use Rattle.gd_units.specs.Names.{name_of}
use Rattle.gd_units.specs.declared.service.Kind.TheVariants as way
use Rattle.gd_text_part.specs.Numbers.{number_of, signed_of}
use Rattle.gd_text_part.specs.Rows as read
use Rattle.gd_text_part.specs.declared.row.Row.TheVariants as row
use Rattle.gd_text_part.specs.declared.row.PipelineRow.TheVariants as pipeline
use Rattle.gd_text_part.specs.declared.row.QuestionRow.TheVariants as question
use Rattle.gd_body.specs.Publishable.{IsName, IsQuantity, IsShort}
use Rattle.gd_body.specs.Rows.{whole, segment_fields, point_fields, pool_fields, words_row}
use Rattle.gd_body.proofs.PlainFields.{decimal_reads, signed_reads, signed_some}

in_range : (k low high n : ℕ) → low ≤ n → n ≤ high → read.in_range k low high (Some n) ≡ Ok n
in_range k low high n a b =
    let yes : (nat_le low n && nat_le n high) ≡ true = grind (arith, nat_tests) in
    rw yes refl

number : (k low high n : ℕ) → low ≤ n → n ≤ high → n < 10 ^ 18 → read.in_range k low high (number_of (decimal n)) ≡ Ok n
number k low high n a b small = ap (read.in_range k low high) (decimal_reads n small) ∙ in_range k low high n a b

quantity : (k n : ℕ) → IsQuantity n → read.in_range k 0 most_dekatherms (number_of (decimal n)) ≡ Ok n
quantity k n small = number k 0 most_dekatherms n (omega arith) small (omega arith)

name : (k : ℕ) (n : List ℕ) → IsName n → read.good_name k (name_of n) ≡ Ok n
name k n is = ap (read.good_name k) is

-- fields as rows
pub segment_is : (n from to : List ℕ) (capacity : ℕ) → IsName n → IsName from → IsName to → IsQuantity capacity
    → read.segment_row (whole (segment_fields n from to capacity)) ≡ Ok (row.Pipeline (pipeline.Segment n from to capacity))
unfolding read.segment_row field_at read.empty_run
segment_is n from to capacity a b c d = rw (name 2 n a, name 3 from b, name 4 to c, quantity 5 capacity d) refl

pub receipt_is : (n place operator : List ℕ) (capacity : ℕ) → IsName n → IsName place → IsName operator → IsQuantity capacity
    → read.point_row (whole (point_fields n (codes "receipt") place operator capacity)) ≡ Ok (row.Pipeline (pipeline.Point n way.Receipt place operator capacity))
unfolding read.point_row field_at read.empty_run
receipt_is n place operator capacity a b c d = rw (name 2 n a, name 4 place b, name 5 operator c, quantity 6 capacity d) refl

pub delivery_is : (n place operator : List ℕ) (capacity : ℕ) → IsName n → IsName place → IsName operator → IsQuantity capacity
    → read.point_row (whole (point_fields n (codes "delivery") place operator capacity)) ≡ Ok (row.Pipeline (pipeline.Point n way.Delivery place operator capacity))
unfolding read.point_row field_at read.empty_run
delivery_is n place operator capacity a b c d = rw (name 2 n a, name 4 place b, name 5 operator c, quantity 6 capacity d) refl

pub pool_is : (n place operator : List ℕ) → IsName n → IsName place → IsName operator
    → read.pool_row (whole (pool_fields n place operator)) ≡ Ok (row.Pipeline (pipeline.Pool n place operator))
unfolding read.pool_row field_at read.empty_run
pool_is n place operator a b c = rw (name 2 n a, name 3 place b, name 4 operator c) refl

pub question_is : (book : List ℕ) (cycle round : ℕ) → IsName book → (1 ≤ cycle) × (cycle ≤ cycles) → (1 ≤ round) × (round ≤ most_rounds)
    → read.question_row (whole (codes "question" ∷ book ∷ decimal cycle ∷ decimal round ∷ [])) ≡ Ok (row.Question (question.Head book cycle round))
unfolding read.question_row field_at read.empty_run
question_is book cycle round a b c = rw (name 2 book a, number 3 1 cycles cycle b.0 b.1 (omega arith), number 4 1 most_rounds round c.0 c.1 (omega arith)) refl

pub capacity_is : (element : List ℕ) (limit : ℕ) → IsName element → IsQuantity limit
    → read.capacity_row (whole (codes "capacity" ∷ element ∷ decimal limit ∷ [])) ≡ Ok (row.Question (question.Capacity element limit))
unfolding read.capacity_row field_at read.empty_run
capacity_is element limit a b = rw (name 2 element a, quantity 3 limit b) refl

pub line_is : (origin dest : List ℕ) (class floor ceiling : ℕ) → IsName origin → IsName dest → class ≤ classes → IsQuantity floor → IsQuantity ceiling
    → read.line_row (whole (codes "line" ∷ origin ∷ dest ∷ decimal class ∷ decimal floor ∷ decimal ceiling ∷ [])) ≡ Ok (row.Question (question.Line origin dest class floor ceiling))
unfolding read.line_row field_at read.empty_run
line_is origin dest class floor ceiling a b c d e =
    rw (name 2 origin a, name 3 dest b, number 4 0 255 class (omega arith) (omega arith) (omega arith), quantity 5 floor d, quantity 6 ceiling e) refl

pub sched_is : (next quantity_of : ℕ) → next < 10 ^ 18 → IsQuantity quantity_of
    → read.sched_row next (whole (codes "sched" ∷ decimal next ∷ decimal quantity_of ∷ [])) ≡ Ok (row.Sched next quantity_of)
unfolding read.sched_row field_at read.empty_run
sched_is next q a b = rw (number 2 next next next (omega arith) (omega arith) a, quantity 3 q b) refl

signed : (k : ℕ) (z : ℤ) → IsShort z → read.good_signed k (signed_of (signed_decimal z)) ≡ Ok z
signed k z small = ap (read.good_signed k) (signed_reads z small)

pub zero_only : (z : ℤ) → unsigned_abs z ≡ 0 → z ≡ pos 0
zero_only (pos n) e = ap (λ k. pos k) e
zero_only (negsuc n) e = absurd (omega (arith, e))

-- the word that a field of the spread says
spread_is : (z : ℤ) (at : Bool) → (unsigned_abs z == 0) ≡ at → IsShort z
    → (if length (if at then [] else signed_decimal z) == 0 then Ok (pos 0) else read.good_signed 5 (signed_of (if at then [] else signed_decimal z))) ≡ Ok z
spread_is z true e small = let none : unsigned_abs z ≡ 0 = grind (arith, nat_tests) in ap (λ (w : ℤ). Ok w) (sym (zero_only z none))
spread_is z false e small = rw (signed_some z small) (signed 5 z small)

pub price_is : (element : List ℕ) (level : ℕ) (word spread : ℤ) → IsName element → (1 ≤ level) × (level ≤ classes) → IsShort word → IsShort spread
    → read.price_row (whole (words_row element level word spread)) ≡ Ok (row.Price element level word spread)
unfolding read.price_row field_at read.empty_run
price_is element level word spread a b c d =
    rw (name 2 element a, number 3 1 classes level b.0 b.1 (omega arith), signed 4 word c, spread_is spread (unsigned_abs spread == 0) refl d) refl

pub bumped_is : (line taken : ℕ) → line < 4_294_967_295 → IsQuantity taken
    → read.bumped_row (whole (codes "bumped" ∷ decimal (line + 1) ∷ decimal taken ∷ [])) ≡ Ok (row.Bumped (line + 1) taken)
unfolding read.bumped_row field_at read.empty_run
bumped_is line taken a b = rw (number 2 1 4_294_967_295 (line + 1) (omega arith) (omega arith) (omega arith), quantity 3 taken b) refl
