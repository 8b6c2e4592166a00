-- Rows that come line by line, at worked examples.
use Rattle.std.proofs.Common.{◌≡◌, [], ◌∷◌, ◌++◌, codes, Ok, Err, refl, arith}
use Rattle.std.specs.Prelude.{⊤}
use Rattle.csv.specs.Records.{field_at}
use Rattle.gd_rules.specs.Lines.{Key}
use Rattle.gd_text_part.specs.Events.{nominate_row, moment_and_round}
use Rattle.gd_text_part.specs.Lines.{IsPlain, bare, behind_opening, cut_at_commas, line_of}
use Rattle.gd_text_part.specs.Numbers.{number_after}
use Rattle.gd_text_part.specs.Rows.{empty_run, key_at, sched_row}
use Rattle.gd_text_part.specs.declared.fault.Cause.TheVariants.{BadField, FieldCount, Order}
use Rattle.gd_text_part.specs.declared.order.Place.{Place}
use Rattle.gd_text_part.specs.declared.row.EventRow.TheVariants.{Nominate, Publish}
use Rattle.gd_text_part.specs.declared.row.Row.TheVariants as row
use Rattle.gd_text_part.specs.declared.waiting.Waiting.TheVariants as waiting

-- what an example unfolds
unfoldable computed : ⊤
unfolding field_at number_after empty_run key_at nominate_row moment_and_round sched_row
computed = tt

-- of two carriage returns at the end one is taken off, and none elsewhere
worked_bare : (bare (codes "a" ++ 13 ∷ []) ≡ codes "a") × (bare (codes "a" ++ 13 ∷ 13 ∷ []) ≡ codes "a" ++ 13 ∷ [])
    × (bare (13 ∷ codes "a") ≡ 13 ∷ codes "a") × (bare (13 ∷ []) ≡ [])
worked_bare = (refl, refl, refl, refl)

worked_cut : (cut_at_commas [] (codes "respond,7,,70,") ≡ codes "respond" ∷ codes "7" ∷ [] ∷ codes "70" ∷ [] ∷ [])
    × (cut_at_commas [] (codes ",") ≡ [] ∷ [] ∷ []) × (cut_at_commas [] [] ≡ [] ∷ [])
worked_cut = (refl, refl, refl)

worked_plain : IsPlain (codes "a,b")
worked_plain = record { some = omega arith; plain = (refl, (refl, (refl, tt))) }

worked_empty : ¬ IsPlain []
worked_empty plain = omega (arith, plain.some)

line : Key
line = record { contract = codes "F"; «package» = codes "G"; origin = codes "R"; dest = codes "D" }

-- behind a call rows stand behind the opening again
called : line_of behind_opening 4 (codes "nominate,7,P,F,G,R,D,6") ≡ Ok (row.Event (Nominate 7 (codes "P") line 6), behind_opening)
unfolding computed line
called = refl

-- where the first row of a group waits, which is row 4
one_waits : Place
one_waits = record behind_opening { scheds = 1; waiting = waiting.Certificate 4 }

-- a group's rows wait for their call, and the call takes them; another one leaves them over, which is told at the first
grouped : (line_of behind_opening 4 (codes "sched,1,6,,,,,") ≡ Ok (row.Sched 1 6, one_waits))
    × (line_of one_waits 5 (codes "sched,1,6,,,,,") ≡ Err (record { row = 5; cause = BadField 2 }))
    × (line_of one_waits 5 (codes "publish,8,1,,,,,") ≡ Ok (row.Event (Publish 8 1), behind_opening))
    × (line_of one_waits 5 (codes "skip,8,,,,,,") ≡ Err (record { row = 4; cause = Order }))
unfolding computed one_waits
grouped = (refl, refl, refl, refl)

-- a row of the opening is out of order, and a quoted field is none, nor is an empty line a row
refused : (line_of behind_opening 4 (codes "carry,F,G,R,D,5,,") ≡ Err (record { row = 4; cause = Order }))
    × (line_of behind_opening 4 (34 ∷ codes "skip" ++ 34 ∷ codes ",8,,,,,,") ≡ Err (record { row = 4; cause = FieldCount }))
    × (line_of behind_opening 4 [] ≡ Err (record { row = 4; cause = FieldCount }))
unfolding computed
refused = (refl, refl, refl)
