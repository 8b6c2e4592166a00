-- What the fields of each kind of row are.
use Rattle.std.specs.Str.{is_utf8}
use Rattle.std.specs.Prelude.{ℕ, ℤ, pos, zero, suc, ◌+◌, ◌-◌, ◌==◌, ◌&&◌, nat_le, codes, if◌then◌else◌}
use Rattle.std.specs.Prelude.{Bool, true, false, List, [], length, Option, Some, None, Result, Ok, Err, unwrap_or}
use Rattle.csv.specs.Records.{field_at}
use Rattle.gd_rules.specs.Limits.{most_dekatherms, cycles, most_rounds, classes, bands, latest_moment}
use Rattle.gd_rules.specs.Lines.{Key}
use Rattle.gd_units.specs.Names.{name_of}
use Rattle.gd_units.specs.declared.name.NameFault.{NameFault}
use Rattle.gd_units.specs.declared.service.Kind.{Kind}
use Rattle.gd_units.specs.declared.service.Kind.TheVariants as way
use Rattle.gd_units.specs.declared.service.End.{End}
use Rattle.gd_units.specs.declared.service.End.TheVariants as side
use Rattle.gd_contracts.specs.declared.contract.Service.{Service}
use Rattle.gd_contracts.specs.declared.contract.Service.TheVariants as service
use Rattle.gd_text_part.specs.Numbers.{number_of, signed_of}
use Rattle.gd_text_part.specs.Dates.{YearMonthDay, date_of}
use Rattle.gd_text_part.specs.Kinds.{is_text}
use Rattle.gd_text_part.specs.declared.fault.Cause.{Cause}
use Rattle.gd_text_part.specs.declared.fault.Cause.TheVariants as cause
use Rattle.gd_text_part.specs.declared.body.TheConstants.{MAX_WRITTEN_CLASS}
use Rattle.gd_text_part.specs.declared.fields.TheConstants.{MAX_WRITTEN_LINE}
use Rattle.gd_text_part.specs.declared.row.TheConstants.{FIELD_COUNT}
use Rattle.gd_text_part.specs.declared.row.Member.{Member}
use Rattle.gd_text_part.specs.declared.row.Member.TheVariants as member
use Rattle.gd_text_part.specs.declared.row.Row.{Row}
use Rattle.gd_text_part.specs.declared.row.Row.TheVariants as row
use Rattle.gd_text_part.specs.declared.row.PipelineRow.TheVariants as pipeline
use Rattle.gd_text_part.specs.declared.row.QuestionRow.TheVariants as question

-- one step after the other, up to the first fault
infixl 10 ◌>>=◌
abbrev pub ◌>>=◌ : {A B E : Type 0} → Result A E → (A → Result B E) → Result B E
(Ok x) >>= f = f x
(Err e) >>= f = Err e

-- field k of a record, where the kind is field 1; a field past the last is empty
abbrev pub field : List (List ℕ) → ℕ → List ℕ
field fields k = unwrap_or (field_at fields (k - 1)) []

abbrev pub good_name : ℕ → Result (List ℕ) NameFault → Result (List ℕ) Cause
good_name k (Ok n) = Ok n
good_name k (Err e) = Err (cause.BadField k)

abbrev pub name_at : List (List ℕ) → ℕ → Result (List ℕ) Cause
name_at fields k = good_name k (name_of (field fields k))

abbrev pub in_range : ℕ → ℕ → ℕ → Option ℕ → Result ℕ Cause
in_range k low high None = Err (cause.BadField k)
in_range k low high (Some n) = if nat_le low n && nat_le n high then Ok n else Err (cause.BadField k)

-- the number of field k, from low to high
abbrev pub number_at : List (List ℕ) → ℕ → ℕ → ℕ → Result ℕ Cause
number_at fields k low high = in_range k low high (number_of (field fields k))

abbrev pub quantity_at : List (List ℕ) → ℕ → Result ℕ Cause
quantity_at fields k = number_at fields k 0 most_dekatherms

abbrev pub cycle_at : List (List ℕ) → ℕ → Result ℕ Cause
cycle_at fields k = number_at fields k 1 cycles

abbrev pub round_at : List (List ℕ) → ℕ → Result ℕ Cause
round_at fields k = number_at fields k 1 most_rounds

abbrev pub point_kind_at : List (List ℕ) → ℕ → Result Kind Cause
point_kind_at fields k =
    if is_text (field fields k) (codes "receipt") then Ok way.Receipt
    else if is_text (field fields k) (codes "delivery") then Ok way.Delivery
    else Err (cause.BadField k)

abbrev pub class_at : List (List ℕ) → ℕ → Result ℕ Cause
class_at fields k = number_at fields k 1 classes

abbrev pub good_signed : ℕ → Option ℤ → Result ℤ Cause
good_signed k (Some z) = Ok z
good_signed k None = Err (cause.BadField k)

abbrev pub signed_at : List (List ℕ) → ℕ → Result ℤ Cause
signed_at fields k = good_signed k (signed_of (field fields k))

abbrev pub signed_or_zero_at : List (List ℕ) → ℕ → Result ℤ Cause
signed_or_zero_at fields k = if length (field fields k) == 0 then Ok (pos 0) else signed_at fields k

abbrev pub name_or_none_at : List (List ℕ) → ℕ → Result (Option (List ℕ)) Cause
name_or_none_at fields k = if length (field fields k) == 0 then Ok None else (name_at fields k >>= λ n. Ok (Some n))

abbrev pub member_at : List (List ℕ) → ℕ → Result Member Cause
member_at fields k =
    if is_text (field fields k) (codes "place") then Ok member.Place
    else if is_text (field fields k) (codes "point") then Ok member.Point
    else if is_text (field fields k) (codes "pool") then Ok member.Pool
    else Err (cause.BadField k)

abbrev pub good_date : ℕ → Option YearMonthDay → Result YearMonthDay Cause
good_date k (Some date) = Ok date
good_date k None = Err (cause.BadField k)

abbrev pub date_at : List (List ℕ) → ℕ → Result YearMonthDay Cause
date_at fields k = good_date k (date_of (field fields k))

-- a text in UTF-8 that isn't empty
abbrev pub text_at : List (List ℕ) → ℕ → Result (List ℕ) Cause
text_at fields k =
    if length (field fields k) == 0 then Err (cause.BadField k)
    else if is_utf8 (field fields k) then Ok (field fields k)
    else Err (cause.BadField k)

abbrev pub moment_at : List (List ℕ) → ℕ → Result ℕ Cause
moment_at fields k = number_at fields k 0 latest_moment

-- lines are counted from 1
abbrev pub line_at : List (List ℕ) → ℕ → Result ℕ Cause
line_at fields k = number_at fields k 1 MAX_WRITTEN_LINE

abbrev pub end_at : List (List ℕ) → ℕ → Result End Cause
end_at fields k =
    if is_text (field fields k) (codes "origin") then Ok side.Origin
    else if is_text (field fields k) (codes "dest") then Ok side.Dest
    else Err (cause.BadField k)

-- a band, 1 where the field is empty
abbrev pub band_at : List (List ℕ) → ℕ → Result ℕ Cause
band_at fields k = if length (field fields k) == 0 then Ok 1 else number_at fields k 1 bands

-- the contract, package, origin and destination that the four fields from k on name
unfoldable pub key_at : List (List ℕ) → ℕ → Result Key Cause
key_at fields k = do
  contract ← name_at fields k
  parcel ← name_at fields (k + 1)
  origin ← name_at fields (k + 2)
  dest ← name_at fields (k + 3)
  Ok (record { contract = contract; «package» = parcel; origin = origin; dest = dest })

-- the n fields from k on are empty
unfoldable pub empty_run : List (List ℕ) → ℕ → ℕ → Result (Unit {0}) Cause
empty_run fields k zero = Ok tt
empty_run fields k (suc n) = if length (field fields k) == 0 then empty_run fields (k + 1) n else Err (cause.BadField k)

-- field k and those after it are empty
abbrev pub empty_from : List (List ℕ) → ℕ → Result (Unit {0}) Cause
empty_from fields k = empty_run fields k (FIELD_COUNT + 1 - k)

unfoldable pub segment_row : List (List ℕ) → Result Row Cause
segment_row fields = do
  name ← name_at fields 2
  from ← name_at fields 3
  to ← name_at fields 4
  capacity ← quantity_at fields 5
  rest ← empty_from fields 6
  Ok (row.Pipeline (pipeline.Segment name from to capacity))

unfoldable pub point_row : List (List ℕ) → Result Row Cause
point_row fields = do
  name ← name_at fields 2
  kind ← point_kind_at fields 3
  place ← name_at fields 4
  operator ← name_at fields 5
  capacity ← quantity_at fields 6
  rest ← empty_from fields 7
  Ok (row.Pipeline (pipeline.Point name kind place operator capacity))

unfoldable pub pool_row : List (List ℕ) → Result Row Cause
pool_row fields = do
  name ← name_at fields 2
  place ← name_at fields 3
  operator ← name_at fields 4
  rest ← empty_from fields 5
  Ok (row.Pipeline (pipeline.Pool name place operator))

-- whether a contract is firm, or interruptible
abbrev pub is_firm_at : List (List ℕ) → ℕ → Result Bool Cause
is_firm_at fields k =
    if is_text (field fields k) (codes "firm") then Ok true
    else if is_text (field fields k) (codes "interruptible") then Ok false
    else Err (cause.BadField k)

-- firm service between two ends, or interruptible service at a band
unfoldable pub service_of : Bool → List (List ℕ) → Result Service Cause
service_of true fields = do
  origin ← name_at fields 6
  dest ← name_at fields 7
  rest ← empty_from fields 8
  Ok (service.Firm origin dest)
service_of false fields = do
  band ← band_at fields 6
  rest ← empty_from fields 7
  Ok (service.Interruptible band)

unfoldable pub contract_row : List (List ℕ) → Result Row Cause
contract_row fields = do
  name ← name_at fields 2
  shipper ← name_at fields 3
  firm ← is_firm_at fields 4
  quantity ← quantity_at fields 5
  service ← service_of firm fields
  Ok (row.Contract (record { name = name; shipper = shipper; quantity = quantity; service = service }))

unfoldable pub carry_row : List (List ℕ) → Result Row Cause
carry_row fields = do
  key ← key_at fields 2
  quantity ← quantity_at fields 6
  rest ← empty_from fields 7
  Ok (row.Carry key quantity)

unfoldable pub question_row : List (List ℕ) → Result Row Cause
question_row fields = do
  book ← name_at fields 2
  cycle ← cycle_at fields 3
  round ← round_at fields 4
  rest ← empty_from fields 5
  Ok (row.Question (question.Head book cycle round))

unfoldable pub capacity_row : List (List ℕ) → Result Row Cause
capacity_row fields = do
  element ← name_at fields 2
  capacity ← quantity_at fields 3
  rest ← empty_from fields 4
  Ok (row.Question (question.Capacity element capacity))

unfoldable pub line_row : List (List ℕ) → Result Row Cause
line_row fields = do
  origin ← name_at fields 2
  dest ← name_at fields 3
  class ← number_at fields 4 0 MAX_WRITTEN_CLASS
  floor ← quantity_at fields 5
  ceiling ← quantity_at fields 6
  rest ← empty_from fields 7
  Ok (row.Question (question.Line origin dest class floor ceiling))

-- the lines of `sched` rows are 1, 2, 3 and so on: the next one, and no other
unfoldable pub sched_row : ℕ → List (List ℕ) → Result Row Cause
sched_row next fields = do
  line ← number_at fields 2 next next
  quantity ← quantity_at fields 3
  rest ← empty_from fields 4
  Ok (row.Sched line quantity)

-- the book of a gas day, which a calendar doesn't need
abbrev pub book_at : Bool → List (List ℕ) → ℕ → Result (Option (List ℕ)) Cause
book_at needed fields k = if needed then (name_at fields k >>= λ n. Ok (Some n)) else name_or_none_at fields k

unfoldable pub day_row : Bool → List (List ℕ) → Result Row Cause
day_row needed fields = do
  date ← date_at fields 2
  zone ← text_at fields 3
  book ← book_at needed fields 4
  rest ← empty_from fields 5
  Ok (row.Day date zone book)

unfoldable pub price_row : List (List ℕ) → Result Row Cause
price_row fields = do
  element ← name_at fields 2
  class ← class_at fields 3
  word ← signed_at fields 4
  spread ← signed_or_zero_at fields 5
  rest ← empty_from fields 6
  Ok (row.Price element class word spread)

unfoldable pub inside_row : List (List ℕ) → Result Row Cause
inside_row fields = do
  member ← member_at fields 2
  name ← name_at fields 3
  rest ← empty_from fields 4
  Ok (row.Inside member name)

unfoldable pub bumped_row : List (List ℕ) → Result Row Cause
bumped_row fields = do
  line ← line_at fields 2
  quantity ← quantity_at fields 3
  rest ← empty_from fields 4
  Ok (row.Bumped line quantity)
