-- What a gas day came to, by the history of its book and by the rows that told of its calls.
use Rattle.std.specs.Prelude.{ℕ, ◌+◌, ◌-◌, ◌^◌, ◌==◌, ◌&&◌, max, min, Bool, true, false, nat_le, List, filter, fold, length}
use Rattle.gd_rules.specs.GasDay.Mark.{Effective}
use Rattle.gd_rules.specs.Limits.{cycles}
use Rattle.gd_calendar.specs.Calendar.{due, finish}
use Rattle.gd_machine.specs.declared.event.Event.{Event}
use Rattle.gd_machine.specs.declared.event.Event.TheVariants.{Freeze, Publish, Declare, Skip}
use Rattle.gd_machine.specs.declared.reply.Reply.{Reply}
use Rattle.gd_machine.specs.declared.reply.Reply.TheVariants.{Frozen}
use Rattle.gd_machine.specs.History.{History, moment_of}
use Rattle.gd_replies.specs.declared.reply.Reply.{Reply as Row}
use Rattle.gd_replies.specs.declared.reply.Reply.TheVariants.{Refused, UncertifiedShape, UncertifiedLine, UncertifiedElement, ReceiptRefused}
use Rattle.gd_rounds.specs.declared.summary.Counted.{Counted}
use Rattle.gd_rounds.specs.declared.summary.Counted.TheVariants as counted
use Rattle.gd_rounds.specs.declared.summary.Lateness.{Lateness}
use Rattle.gd_rounds.specs.declared.summary.Summary.{Summary}

abbrev pub is_published : Event → Bool
is_published (Publish moment certificate) = true
is_published event = false

abbrev pub is_declared : Event → Bool
is_declared (Declare moment round cut) = true
is_declared event = false

abbrev pub is_skipped : Event → Bool
is_skipped (Skip moment) = true
is_skipped event = false

-- a freeze of a cycle that takes effect before it, or right then
abbrev pub is_late : List ℕ → Event × Reply → Bool
is_late moments (Freeze moment, Frozen number cycle round lines) = nat_le (due moments cycle Effective) moment
is_late moments p = false

-- a call at the end of the gas day, or behind it
abbrev pub is_beyond : List ℕ → Event → Bool
is_beyond moments event = nat_le (finish moments) (moment_of event)

-- in the calendar of these moments
abbrev pub is_counted : Counted → List ℕ → Event × Reply → Bool
is_counted counted.Published moments p = is_published p.0
is_counted counted.Declared moments p = is_declared p.0
is_counted counted.Skipped moments p = is_skipped p.0
is_counted counted.Late moments p = is_late moments p
is_counted counted.Beyond moments p = is_beyond moments p.0

abbrev pub count : Counted → List ℕ → History → ℕ
count kind moments h = length (filter (λ p. is_counted kind moments p) h)

-- how an event came too late, if it did
abbrev pub lateness_of : List ℕ → Event × Reply → Lateness
lateness_of moments p = record { is_late = is_late moments p; is_beyond = is_beyond moments p.0 }

abbrev pub frozen_cycle : Reply → ℕ
frozen_cycle (Frozen number cycle round lines) = cycle
frozen_cycle reply = 0

-- the last cycle that was frozen, 0 where none was: all before it were too
abbrev pub reached : History → ℕ
reached h = fold (λ last p. max last (frozen_cycle p.1)) 0 h

-- a row that tells that a call was refused, a publish for its certificate among them
abbrev pub is_refused : Row → Bool
is_refused (Refused call refusal) = true
is_refused (UncertifiedShape fault) = true
is_refused (UncertifiedLine fault line) = true
is_refused (UncertifiedElement fault element) = true
is_refused (ReceiptRefused session length call refusal) = true
is_refused row = false

abbrev pub refused : List Row → ℕ
refused rows = length (filter is_refused rows)

-- what rows tell alone
abbrev pub of_rows : List Row → Summary
of_rows rows = record { published = 0; declared = 0; skipped = 0; unreached = 0; late = 0; beyond = 0; refused = refused rows }

abbrev pub summary_of : List ℕ → History → List Row → Summary
summary_of moments h rows = record {
  published = count counted.Published moments h;
  declared = count counted.Declared moments h;
  skipped = count counted.Skipped moments h;
  unreached = cycles - reached h;
  late = count counted.Late moments h;
  beyond = count counted.Beyond moments h;
  refused = refused rows;
}

-- the sum of two numbers, or the greatest number where it is above that
abbrev pub sum : ℕ → ℕ → ℕ
sum a b = min (a + b) (2 ^ 64 - 1)

-- what two gas days came to together
abbrev pub both : Summary → Summary → Summary
both a b = record {
  published = sum a.published b.published;
  declared = sum a.declared b.declared;
  skipped = sum a.skipped b.skipped;
  unreached = sum a.unreached b.unreached;
  late = sum a.late b.late;
  beyond = sum a.beyond b.beyond;
  refused = sum a.refused b.refused;
}

-- No call was refused, no question was shown to have no allowed schedule, and no freeze and no call came too late.
abbrev pub is_in_order : Summary → Bool
is_in_order s = (s.refused == 0) && (s.declared == 0) && (s.late == 0) && (s.beyond == 0)
