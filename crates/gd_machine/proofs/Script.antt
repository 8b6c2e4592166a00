-- What worked examples run: the machine over a list of events, and a small gas day.
use Rattle.std.specs.Prelude.{ℕ, List, [], ◌∷◌, ◌++◌, codes, Option, Some, None, Result, Ok, Err}
use Rattle.gd_rules.specs.Question as rules
use Rattle.gd_rules.specs.Question.Element.{Segment as segment, Receipt as receipt, Delivery as delivery}
use Rattle.gd_rules.specs.Lines.{Key}
use Rattle.gd_units.specs.declared.service.Kind.TheVariants.{Receipt, Delivery}
use Rattle.gd_system.specs.Pipeline.{Pipeline}
use Rattle.gd_contracts.specs.declared.contract.Contract.{Contract}
use Rattle.gd_contracts.specs.declared.contract.Service.TheVariants.{Firm, Interruptible}
use Rattle.gd_question.specs.Posing.{Posed}
use Rattle.gd_machine.specs.declared.event.Event.{Event}
use Rattle.gd_machine.specs.declared.event.Event.TheVariants.{Publish}
use Rattle.gd_machine.specs.declared.reply.Reply.{Reply}
use Rattle.gd_machine.specs.declared.refusal.Refusal.{Refusal}
use Rattle.gd_machine.specs.Day.{Day}
use Rattle.gd_machine.specs.History.{History}
use Rattle.gd_machine.specs.Machine.{refusal_of, reply_of}

-- ---- runs

abbrev pub told : Option Refusal → Reply → Result Reply Refusal
told None reply = Ok reply
told (Some refusal) reply = Err refusal

abbrev pub answer : Day → History → Event → Result Reply Refusal
answer day h event = told (refusal_of day h event) (reply_of day h event)

abbrev pub kept : History → Event → Result Reply Refusal → History
kept h event (Ok reply) = h ++ (event, reply) ∷ []
kept h event (Err refusal) = h

-- What the machine answers to the events in turn, after this history.
abbrev pub answers : Day → History → List Event → List (Result Reply Refusal)
answers day h [] = []
answers day h (event ∷ events) = answer day h event ∷ answers day (kept h event (answer day h event)) events

-- ---- one segment S1 from A to B of 100, a receipt point R1 at A and a delivery point D1 at B of 1000

abbrev pub r1 : List ℕ
r1 = codes "R1"

abbrev pub d1 : List ℕ
d1 = codes "D1"

abbrev pub ship : List ℕ
ship = codes "SHIP"

abbrev pub opr : List ℕ
opr = codes "OPR"

abbrev pub opd : List ℕ
opd = codes "OPD"

abbrev pub base : Pipeline
base = record {
  places = codes "A" ∷ codes "B" ∷ [];
  segments = codes "S1" ∷ [];
  tree = segment 0 1 100 ∷ [];
  points =
      (r1, record { kind = Receipt; place = record { 0 = 0 }; operator = opr; capacity = 1000 })
      ∷ (d1, record { kind = Delivery; place = record { 0 = 1 }; operator = opd; capacity = 1000 }) ∷ [];
  pools = [];
}

abbrev pub firm_contract : Contract
firm_contract = record { name = codes "FIRM"; shipper = ship; quantity = 100; service = Firm r1 d1 }

abbrev pub interruptible_contract : Contract
interruptible_contract = record { name = codes "INT"; shipper = ship; quantity = 100; service = Interruptible 1 }

abbrev pub firm : Key
firm = record { contract = codes "FIRM"; «package» = codes "P"; origin = r1; dest = d1 }

abbrev pub interruptible : Key
interruptible = record firm { contract = codes "INT" }

-- the gas day 2026-03-08 by the rule of the United States
abbrev pub moments : List ℕ
moments =
    1772910000 ∷ 1772910900 ∷ 1772911800 ∷ 1772922600 ∷ 1772924400
    ∷ 1772928000 ∷ 1772928900 ∷ 1772929800 ∷ 1772937000 ∷ 1772938800
    ∷ 1772978400
    ∷ 1772982000 ∷ 1772982900 ∷ 1772983800 ∷ 1772991000 ∷ 1772992800 ∷ 1772996400
    ∷ 1772998200 ∷ 1772999100 ∷ 1773000000 ∷ 1773007200 ∷ 1773009000 ∷ 1773010800
    ∷ 1773014400 ∷ 1773015300 ∷ 1773016200 ∷ 1773023400 ∷ 1773025200
    ∷ 1773064800 ∷ []

abbrev pub day_with : List Contract → List (Key × ℕ) → Day
day_with contracts carry = record { name = codes "DEMO"; holdings = record { pipeline = base; contracts = contracts }; moments = moments; carry = carry }

-- ---- certificates

-- From R1 to D1.
abbrev pub line : ℕ → ℕ → ℕ → rules.Line
line class floor ceiling = record { origin = 1; dest = 2; route = 0 ∷ []; class = class; floor = floor; ceiling = ceiling }

-- The question with this capacity of S1.
abbrev pub asked : ℕ → ℕ → ℕ → List rules.Line → Posed
asked capacity cycle round lines = record {
  pipeline = base;
  asked = record { elements = segment 0 1 capacity ∷ receipt 0 1000 ∷ delivery 1 1000 ∷ []; lines = lines };
  book = codes "DEMO";
  cycle = cycle;
  round = round;
}

-- The machine does not look at the prices: the type of a certificate keeps that they passed.
abbrev pub publish : ℕ → Posed → List ℕ → Event
publish moment question schedule = Publish moment (record { question = question; schedule = schedule; prices = [] })
