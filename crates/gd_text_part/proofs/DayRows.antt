-- The rows of a gas day's text at worked examples.
use Rattle.std.specs.Prelude.{◌≡◌, ℕ, List, [], ◌∷◌, codes, Some, Ok, ⊤, refl}
use Rattle.std.specs.Str.{is_utf8, chars}
use lib.Utf8.{encode}
use Rattle.csv.proofs.OnLiterals.{csv_on_literals}
use Rattle.csv.specs.Records.{field_at}
use Rattle.gd_text_part.proofs.ExampleTexts.{text, read, refused}
use Rattle.gd_contracts.specs.declared.contract.Contract.{Contract}
use Rattle.gd_contracts.specs.declared.contract.Service.TheVariants.{Firm, Interruptible}
use Rattle.gd_rules.specs.Lines.{Key}
use Rattle.gd_text_part.specs.Events.{nominate_row, only_moment, moment_and_round}
use Rattle.gd_text_part.specs.Numbers.{number_after}
use Rattle.gd_text_part.specs.Rows.{empty_run, key_at, service_of, segment_row, contract_row, carry_row, day_row}
use Rattle.gd_text_part.specs.Rows.{sched_row, price_row, inside_row}
use Rattle.gd_text_part.specs.Texts.{rows_from}
use Rattle.gd_text_part.specs.declared.fault.Cause.TheVariants.{BadField, FieldCount, Order}
use Rattle.gd_text_part.specs.declared.kind.Form.TheVariants as form
use Rattle.gd_text_part.specs.declared.row.PipelineRow.TheVariants.{Segment}
use Rattle.gd_text_part.specs.declared.row.EventRow.TheVariants.{Nominate, Publish}
use Rattle.gd_text_part.specs.declared.row.Row.{Row}
use Rattle.gd_text_part.specs.declared.row.Row.TheVariants as row

head : List ℕ
head = codes "day,2026-03-08,UTC0,K,,,,"

-- what an example unfolds
unfoldable computed : ⊤
unfolding csv_on_literals field_at is_utf8 chars encode number_after empty_run key_at service_of segment_row
    contract_row day_row carry_row sched_row price_row inside_row nominate_row only_moment moment_and_round
    rows_from text read refused head
computed = tt

line : Key
line = record { contract = codes "F"; «package» = codes "G"; origin = codes "R"; dest = codes "D" }

firm : Contract
firm = record { name = codes "F"; shipper = codes "P"; quantity = 9; service = Firm (codes "R") (codes "D") }

head_row : Row
head_row = row.Day (record { year = 2026; month = 3; day = 8 }) (codes "UTC0") (Some (codes "K"))

-- a whole text: a segment, a firm contract and one with no band, the head, a carried quantity and two calls
whole : read form.Day (
    codes "segment,S,A,B,9,,," ∷ codes "contract,F,P,firm,9,R,D," ∷ codes "contract,I,P,interruptible,8,,,"
    ∷ head ∷ codes "carry,F,G,R,D,5,,"
    ∷ codes "nominate,7,P,F,G,R,D,6" ∷ codes "sched,1,6,,,,," ∷ codes "publish,8,1,,,,," ∷ [])
    ≡ Ok (
    row.Pipeline (Segment (codes "S") (codes "A") (codes "B") 9)
    ∷ row.Contract firm
    ∷ row.Contract (record { name = codes "I"; shipper = codes "P"; quantity = 8; service = Interruptible 1 })
    ∷ head_row
    ∷ row.Carry line 5
    ∷ row.Event (Nominate 7 (codes "P") line 6)
    ∷ row.Sched 1 6
    ∷ row.Event (Publish 8 1)
    ∷ [])
unfolding computed line firm head_row
whole = refl

settled : List (List ℕ)
settled = head ∷ codes "sched,1,6,,,,," ∷ codes "price,S,1,1,,,," ∷ codes "settle,8,,,,,," ∷ []

both_groups : List (List ℕ)
both_groups = head ∷ codes "sched,1,6,,,,," ∷ codes "inside,place,A,,,,," ∷ codes "declare,8,1,,,,," ∷ []

not_ended : List (List ℕ)
not_ended = head ∷ codes "inside,place,A,,,,," ∷ codes "inside,place,B,,,,," ∷ []

-- rows that wait are left over by an event row that doesn't take them, by a row of the other group and by the end of
-- the text, and each time the first of them, row 2, is told
left_over : (read form.Day settled ≡ refused 2 Order)
    × (read form.Day both_groups ≡ refused 2 Order)
    × (read form.Day not_ended ≡ refused 2 Order)
unfolding computed settled both_groups not_ended
left_over = (refl, refl, refl)

falling : List (List ℕ)
falling = head ∷ codes "price,S,1,1,,,," ∷ codes "sched,1,6,,,,," ∷ codes "publish,8,1,,,,," ∷ []

-- a `sched` row behind a `price` row is out of order itself
falls : read form.Day falling ≡ refused 3 Order
unfolding computed falling
falls = refl

-- two groups, whose second begins with this row
second_group : List ℕ → List (List ℕ)
second_group second =
    head ∷ codes "sched,1,6,,,,," ∷ codes "publish,8,1,,,,," ∷ second ∷ codes "publish,9,1,,,,," ∷ []

-- the numbers of `sched` rows begin at 1 again in each group
again : (read form.Day (second_group (codes "sched,1,5,,,,,"))
    ≡ Ok (head_row ∷ row.Sched 1 6 ∷ row.Event (Publish 8 1) ∷ row.Sched 1 5 ∷ row.Event (Publish 9 1) ∷ []))
    × (read form.Day (second_group (codes "sched,2,5,,,,,")) ≡ refused 4 (BadField 2))
unfolding computed second_group head_row
again = (refl, refl)

faulty_behind : List ℕ → List (List ℕ)
faulty_behind next = head ∷ codes "inside,place,A,,,,," ∷ next ∷ []

-- a row that could not stand there anyhow is told itself and leaves nothing over; the fields of a row that leaves
-- others over are not looked at
behind : (read form.Day (faulty_behind (codes "contract,F,P,firm,9,R,D,")) ≡ refused 3 Order)
    × (read form.Day (faulty_behind (codes "desk,8,,,,,,")) ≡ refused 3 Order)
    × (read form.Day (faulty_behind (codes "skip,8")) ≡ refused 3 FieldCount)
    × (read form.Day (faulty_behind (codes "skip,X,,,,,,")) ≡ refused 2 Order)
unfolding computed faulty_behind
behind = (refl, refl, refl, refl)
