-- A small gas day's text: what its book is opened with, its calls, and its faults.
use Rattle.std.proofs.Common.{◌≡◌, ℕ, List, [], ◌∷◌, ◌++◌, refl, Ok, Err}
use Rattle.std.specs.Prelude.{pos, Some, None, codes}
use Rattle.gd_rules.specs.Lines.{Key}
use Rattle.gd_rules.specs.Question.Element.{Segment as segment}
use Rattle.gd_units.specs.declared.service.Kind.TheVariants.{Receipt, Delivery}
use Rattle.gd_contracts.specs.declared.contract.Contract.{Contract}
use Rattle.gd_contracts.specs.declared.contract.Service.TheVariants.{Interruptible}
use Rattle.gd_contracts.specs.declared.ContractFault.TheVariants as contract
use Rattle.gd_text_part.specs.Dates.{YearMonthDay}
use Rattle.gd_text_part.specs.declared.fault.Cause.{Cause}
use Rattle.gd_text_part.specs.declared.fault.Cause.TheVariants as cause
use Rattle.gd_text_part.specs.declared.fault.TextFault.TheVariants as fault
use Rattle.gd_text_part.specs.declared.row.EventRow.TheVariants as event
use Rattle.gd_text_part.specs.declared.row.Member.TheVariants as member
use Rattle.gd_text_part.specs.declared.row.PipelineRow.TheVariants as pipeline
use Rattle.gd_text_part.specs.declared.row.Row.{Row}
use Rattle.gd_text_part.specs.declared.row.Row.TheVariants as row
use Rattle.gd_text.specs.Building.{built_from}
use Rattle.gd_day.specs.Calls.{calls_of}
use Rattle.gd_day.specs.Opening.{opened_of}

abbrev r1 : List ℕ
r1 = codes "R1"

abbrev d1 : List ℕ
d1 = codes "D1"

abbrev today : YearMonthDay
today = record { year = 2026; month = 3; day = 8 }

abbrev interruptible : Contract
interruptible = record { name = codes "INT"; shipper = codes "SHIP"; quantity = 50; service = Interruptible 1 }

abbrev key : Key
key = record { contract = codes "INT"; «package» = codes "P"; origin = r1; dest = d1 }

-- rows 1 to 6
abbrev before : List Row
before =
    row.Pipeline (pipeline.Segment (codes "S1") (codes "A") (codes "B") 100)
    ∷ row.Pipeline (pipeline.Point r1 Receipt (codes "A") (codes "OPR") 1000)
    ∷ row.Pipeline (pipeline.Point d1 Delivery (codes "B") (codes "OPD") 1000)
    ∷ row.Contract interruptible
    ∷ row.Day today (codes "CST6CDT") (Some (codes "NORTH"))
    ∷ row.Carry key 20 ∷ []

abbrev price : List ℕ → Row
price name = row.Price name 1 (pos 5) (pos 0)

-- row 7, row 8, rows 9 to 11, and rows 12 and 13
abbrev calls : List Row
calls =
    row.Event (event.Nominate 1 (codes "SHIP") key 40) ∷ row.Event (event.Freeze 2)
    ∷ row.Sched 1 40 ∷ price (codes "S1") ∷ row.Event (event.Publish 3 1)
    ∷ row.Inside member.Place (codes "B") ∷ row.Event (event.Declare 4 1) ∷ []

opens : opened_of (before ++ calls)
    ≡ Ok
    (record {
      date = today;
      zone = codes "CST6CDT";
      book = codes "NORTH";
      holdings = record {
        pipeline = record {
          places = codes "A" ∷ codes "B" ∷ [];
          segments = codes "S1" ∷ [];
          tree = segment 0 1 100 ∷ [];
          points =
              (r1, record { kind = Receipt; place = record { 0 = 0 }; operator = codes "OPR"; capacity = 1000 })
              ∷ (d1, record { kind = Delivery; place = record { 0 = 1 }; operator = codes "OPD"; capacity = 1000 }) ∷ [];
          pools = [];
        };
        contracts = interruptible ∷ [];
      };
      carry = (key, 20) ∷ [];
    })
unfolding built_from
opens = refl

-- each call has the rows after the call before it, the first of them all that stand before it
is_called : calls_of (before ++ calls)
    ≡ record { group = before; first = 1; event = event.Nominate 1 (codes "SHIP") key 40 }
    ∷ record { group = []; first = 8; event = event.Freeze 2 }
    ∷ record { group = row.Sched 1 40 ∷ price (codes "S1") ∷ []; first = 9; event = event.Publish 3 1 }
    ∷ record { group = row.Inside member.Place (codes "B") ∷ []; first = 12; event = event.Declare 4 1 } ∷ []
is_called = refl

abbrev refused : List Row → ℕ → Cause → Type 0
refused rows n cause = opened_of rows ≡ Err (fault.Row n cause)

-- a line that is carried twice, at its later row; and before that, a contract that is there already
carried_twice : refused (before ++ row.Carry (record key { dest = r1 }) 1 ∷ row.Carry key 30 ∷ row.Carry key 40 ∷ []) 8 cause.Duplicate
unfolding built_from
carried_twice = refl

contract_twice : refused (before ++ row.Carry key 30 ∷ row.Contract interruptible ∷ []) 8 (cause.Contract contract.Duplicate)
unfolding built_from
contract_twice = refl

-- a price of an element that is not there; one that is given twice in a group, and not in another
price_of_none : refused (before ++ calls ++ price (codes "S2") ∷ row.Event (event.Publish 5 2) ∷ []) 14 cause.UnknownElement
unfolding built_from
price_of_none = refl

price_twice : refused (before ++ calls ++ price (codes "S1") ∷ price (codes "D1") ∷ price (codes "S1") ∷ row.Event (event.Publish 5 2) ∷ []) 16 cause.Duplicate
unfolding built_from
price_twice = refl

-- a member that is no point
inside_of_none : refused (before ++ row.Inside member.Point (codes "S1") ∷ row.Event (event.Declare 5 2) ∷ []) 7 cause.UnknownElement
unfolding built_from
inside_of_none = refl

-- no head names a book
headless : refused (row.Pipeline (pipeline.Segment (codes "S1") (codes "A") (codes "B") 100) ∷ row.Day today (codes "CST6CDT") None ∷ []) 3 cause.Missing
unfolding built_from
headless = refl
