-- The tables of a book, by its history.
use Rattle.std.specs.Prelude.{◌≡◌, ℕ, zero, suc, ◌+◌, ◌-◌, ◌*◌, ◌<◌, ◌≤◌, true, false, List, [], length, get_or, slice_get, Option, Some, None}
use Rattle.gd_rules.specs.Limits.{most_dekatherms, cycles}
use Rattle.gd_rules.specs.Lines.{lines_of}
use Rattle.gd_system.specs.Pipeline.{elements_of}
use Rattle.gd_question.specs.Posing.{Posed}
use Rattle.gd_question.specs.InForce.{in_force}
use Rattle.gd_certificate.specs.Checked.{Certificate}
use Rattle.gd_machine.specs.declared.event.Event.TheVariants.{Publish}
use Rattle.gd_machine.specs.declared.reply.Reply.{Reply}
use Rattle.gd_machine.specs.Day.{Day}
use Rattle.gd_machine.specs.History.{History, last_stamp, cycle_of, round_of, is_frozen, has_cut, schedules, elements_in_force}
use Rattle.gd_machine.specs.Sessions.{session_calls}
use Rattle.gd_machine.specs.Asking.{nominations, accepted, question}
use Rattle.gd_book_part.specs.LineConfirmations.{Tells, nothing}
use Rattle.gd_book_part.specs.declared.tables.Tables.{Tables}

-- A question is kept exactly while the cycle is frozen, and it is the frozen one.
abbrev pub IsFrozenAs : Day → History → Option Posed → Type 0
IsFrozenAs day h None = is_frozen h ≡ false
IsFrozenAs day h (Some q) = (is_frozen h ≡ true) × (q ≡ question day h)

-- The schedule is that of the publish before this place, and none before the first place.
abbrev pub Brings : History → ℕ → List ℕ → Type 0
Brings h zero schedule = schedule ≡ []
Brings h (suc place) schedule = (moment : ℕ) × (certificate : Certificate) × (reply : Reply) × (slice_get h place ≡ Some (Publish moment certificate, reply)) × (schedule ≡ certificate.schedule)

-- Of each cycle that is over, the place behind the publish whose schedule is in effect.
abbrev pub AreInEffect : History → List ℕ → Type 0
AreInEffect h published = (cycle : ℕ) → 1 ≤ cycle → cycle < cycle_of h → Brings h (get_or published (cycle - 1) 0) (get_or (schedules h) cycle [])

pub record AreTablesOf (day : Day) (t : Tables) (h : History) : Type 0 where
  pub stamp : t.stamp ≡ last_stamp h
  pub cycle : t.cycle ≡ cycle_of h
  pub round : t.round ≡ round_of h
  pub cut : t.has_cut ≡ has_cut h
  pub frozen : IsFrozenAs day h t.frozen
  pub lines : t.lines ≡ nominations day h
  -- one entry for each line
  pub sized : length t.confirmations.items ≡ length (lines_of (nominations day h))
  pub confirmed : (line : ℕ) → Tells h line (get_or t.confirmations.items line nothing)
  pub limited : length t.capacities.items ≡ length day.holdings.pipeline.tree + length day.holdings.pipeline.points
  pub in_force : in_force (elements_of day.holdings.pipeline) t.capacities.items ≡ elements_in_force (elements_of day.holdings.pipeline) h
  pub in_effect : AreInEffect h t.published
  pub five : length t.published ≡ cycles
  -- there is a schedule in effect for the time before Timely, which is empty, and for each cycle that is over
  pub counted : length (schedules h) ≡ cycle_of h
  pub before : get_or (schedules h) 0 [] ≡ []
  pub accepted : (t.nominations, t.dekatherms) ≡ accepted day h
  pub small : t.dekatherms ≤ t.nominations * most_dekatherms
  pub few_nominations : t.nominations ≤ length h
  pub calls : t.calls ≡ session_calls h
  pub few_calls : t.calls ≤ length h
  pub few : length h ≤ 1_000_000
  -- what is frozen is one of the five cycles
  pub settled : cycle_of h ≤ 6
  pub running : is_frozen h ≡ true → cycle_of h ≤ cycles
  pub few_rounds : round_of h ≤ length h
