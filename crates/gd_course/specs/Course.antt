-- What a row of a day's text does to its book, and what is told of it.
use Rattle.std.specs.Prelude.{◌≡◌, ◌≢◌, ◌⊎◌, ℕ, ◌-◌, true, false, List, [], ◌∷◌, ◌++◌, map, take, Ok}
use Rattle.gd_cost.specs.Parts.{class_words}
use Rattle.gd_cost.specs.declared.lex.Lex.{Lex}
use Rattle.gd_cost.specs.declared.pair.Pair.{Pair}
use Rattle.gd_system.specs.Pipeline.{Pipeline}
use Rattle.gd_certificate.specs.Checked.{Certificate, IsRight}
use Rattle.gd_certificate.specs.Cutting.{Members}
use Rattle.gd_certificate.specs.Explained.{IsShaped, Cuts}
use Rattle.gd_certificate.specs.InForce.{ExplainsTariff}
use Rattle.gd_certificate.specs.declared.CertFault.{CertFault}
use Rattle.gd_machine.specs.declared.event.Event.TheVariants as event
use Rattle.gd_machine.specs.declared.refusal.Refusal.TheVariants as refusal
use Rattle.gd_machine.specs.Day.{Day}
use Rattle.gd_machine.specs.History.{History, is_frozen, round_of}
use Rattle.gd_machine.specs.Asking.{question}
use Rattle.gd_machine.specs.Headline.{Holds}
use Rattle.gd_replies.specs.Days.{TellsUncertified}
use Rattle.gd_machine.specs.declared.call.Call.TheVariants as call
use Rattle.gd_replies.specs.declared.reply.Reply.{Reply}
use Rattle.gd_replies.specs.declared.reply.Reply.TheVariants as reply
use Rattle.gd_text_part.specs.declared.row.EventRow.{EventRow}
use Rattle.gd_text_part.specs.declared.row.EventRow.TheVariants as row
use Rattle.gd_text_part.specs.declared.row.Row.{Row}
use Rattle.gd_text.specs.Members.{members_of}
use Rattle.gd_text.specs.Prices.{Table, ArePrices, prices_of}
use Rattle.gd_text.specs.Values.{quantities_of}
use Rattle.gd_day.specs.Calls.{Call as DayCall}
use Rattle.gd_day.specs.ElementNames.{element_named}
use Rattle.gd_course.specs.CallRows.{Steps, Stays}

abbrev pub Tariffs : Type 0
Tariffs = List (Pair (Lex 8) (Lex 8))

abbrev pub certificate_of : Day → History → List ℕ → Tariffs → Certificate
certificate_of day h schedule prices = record { question = question day h; schedule = schedule; prices = prices }

-- What is offered for the frozen question is looked at: what isn't right is told, and what is right is published.
abbrev pub PublishesFrozen : Day → History → ℕ → List ℕ → Tariffs → List Reply → History → Type 0
PublishesFrozen day h moment schedule prices rows after =
    ((fault : CertFault) × (told : Reply)
    × ExplainsTariff (question day h).asked schedule (map class_words prices) fault
    × TellsUncertified (question day h) fault told × Stays told h rows after)
    ⊎ (IsRight (certificate_of day h schedule prices)
    × Steps call.Publish day h (event.Publish moment (certificate_of day h schedule prices)) rows after)

-- What the rows before a call offer: a quantity for each line, and a price for each element.
abbrev pub Offers : Pipeline → List Row → List ℕ → Tariffs → Type 0
Offers p group schedule prices =
    (schedule ≡ quantities_of group) × ((table : Table) × (prices_of group p ≡ Ok table) × ArePrices table prices)

-- What the rows before a call offer for the frozen question of a round is looked at only where the book is frozen and the
-- round is the current one.
abbrev pub Publishes : Day → History → ℕ → ℕ → List Row → List Reply → History → Type 0
Publishes day h moment round group rows after =
    ((is_frozen h ≡ false) × Stays (reply.Refused call.Publish refusal.NotFrozen) h rows after)
    ⊎ ((is_frozen h ≡ true) × (round ≢ round_of h)
    × Stays (reply.Refused call.Publish (refusal.StaleRound (round_of h))) h rows after)
    ⊎ ((is_frozen h ≡ true) × (round ≡ round_of h)
    × ((schedule : List ℕ) × (prices : Tariffs) × Offers day.holdings.pipeline group schedule prices
    × PublishesFrozen day h moment schedule prices rows after))

-- The frozen question is solved: a best schedule is published with prices that show it best, or the cycle is declared by a
-- cut that shows that there is none.
abbrev pub Settles : Day → History → ℕ → List Reply → History → Type 0
Settles day h moment rows after =
    ((is_frozen h ≡ false) × Stays (reply.Refused call.Settle refusal.NotFrozen) h rows after)
    ⊎ ((is_frozen h ≡ true) × ((schedule : List ℕ) × (prices : Tariffs) × IsRight (certificate_of day h schedule prices)
    × Steps call.Settle day h (event.Publish moment (certificate_of day h schedule prices)) rows after))
    ⊎ ((is_frozen h ≡ true) × ((cut : Members) × IsShaped (question day h).pipeline cut × Cuts (question day h) cut
    × Steps call.Settle day h (event.Declare moment (round_of h) cut) rows after))

-- The set that the rows before a call name shows that the frozen question of a round has no allowed schedule.
abbrev pub Declares : Day → History → ℕ → ℕ → List Row → List Reply → History → Type 0
Declares day h moment round group rows after =
    (cut : Members) × (members_of group day.holdings.pipeline ≡ Ok cut)
    × Steps call.Declare day h (event.Declare moment round cut) rows after

-- What a row with the rows of its group before it does to the book, and what is told of it. Rows count lines from 1.
abbrev pub RowGives : Day → History → List Row → EventRow → List Reply → History → Type 0
RowGives day h group (row.Nominate moment party key quantity) rows after =
    Steps call.Nominate day h (event.Nominate moment party key quantity) rows after
RowGives day h group (row.Respond moment party line end quantity) rows after =
    Steps call.Respond day h (event.Respond moment party (line - 1) end quantity) rows after
RowGives day h group (row.Post moment element capacity) rows after =
    Steps call.Post day h (event.PostCapacity moment (element_named day.holdings.pipeline element) capacity) rows after
RowGives day h group (row.Freeze moment) rows after = Steps call.Freeze day h (event.Freeze moment) rows after
RowGives day h group (row.Settle moment) rows after = Settles day h moment rows after
RowGives day h group (row.Publish moment round) rows after = Publishes day h moment round group rows after
RowGives day h group (row.Declare moment round) rows after = Declares day h moment round group rows after
RowGives day h group (row.Waive moment line) rows after =
    Steps call.Waive day h (event.Waive moment (line - 1)) rows after
RowGives day h group (row.Skip moment) rows after = Steps call.Skip day h (event.Skip moment) rows after

abbrev pub CallGives : Day → History → DayCall → List Reply → History → Type 0
CallGives day h c rows after = RowGives day h c.group c.event rows after

-- A run of calls, one after the other, with all that is told of them.
abbrev pub Runs : Day → History → List DayCall → List Reply → History → Type 0
Runs day h [] rows after = (rows ≡ []) × (after ≡ h)
Runs day h (c ∷ calls) rows after =
    (between : History) × (front : List Reply) × (rest : List Reply)
    × CallGives day h c front between × Runs day between calls rest after × (rows ≡ front ++ rest)

-- A run of the first of these calls on a book, as far as memory sufficed: the headline holds of its history too.
abbrev pub RunsInPart : Day → History → List DayCall → List Reply → Type 0
RunsInPart day h calls rows = (n : ℕ) × (after : History) × Runs day h (take n calls) rows after × Holds day after
