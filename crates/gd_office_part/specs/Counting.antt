-- What is counted of accepted events.
use Rattle.std.specs.Prelude.{◌+◌, List, fold}
use Rattle.gd_machine.specs.declared.event.Event.{Event}
use Rattle.gd_machine.specs.declared.event.Event.TheVariants.{Nominate, Respond, PostCapacity}
use Rattle.gd_machine.specs.Sessions.{session_calls}
use Rattle.gd_machine.specs.Asking.{accepted}
use Rattle.gd_book.specs.Kept.{Kept}
use Rattle.gd_office_part.specs.declared.numbers.Numbers.{Numbers}
use Rattle.gd_office_part.specs.declared.kept.Receipt.{Receipt}
use Rattle.gd_office_part.specs.declared.kept.Told.{Told}
use Rattle.gd_office_part.specs.declared.kept.Told.TheVariants.{Accepted, Refused}

abbrev pub none : Numbers
none = record { calls = 0; nominations = 0; dekatherms = 0 }

abbrev pub plus : Numbers → Numbers → Numbers
plus a b = record { calls = a.calls + b.calls; nominations = a.nominations + b.nominations; dekatherms = a.dekatherms + b.dekatherms }

-- What a book has accepted.
abbrev pub numbers_of : Kept → Numbers
numbers_of book = record {
  calls = session_calls book.history;
  nominations = (accepted book.day book.history).0;
  dekatherms = (accepted book.day book.history).1;
}

-- What an event counts for where it is accepted.
abbrev pub worth_of : Event → Numbers
worth_of (Nominate moment party key quantity) = record { calls = 1; nominations = 1; dekatherms = quantity }
worth_of (Respond moment party line end quantity) = record { calls = 1; nominations = 0; dekatherms = 0 }
worth_of (PostCapacity moment element capacity) = record { calls = 1; nominations = 0; dekatherms = 0 }
worth_of event = none

-- The numbers rise where the event is accepted.
abbrev pub counted : Numbers → Event → Told → Numbers
counted numbers event (Accepted number reply) = plus numbers (worth_of event)
counted numbers event (Refused len refusal) = numbers

abbrev pub counted_all : Numbers → List Receipt → Numbers
counted_all numbers receipts = fold (λ n r. counted n r.event r.told) numbers receipts
