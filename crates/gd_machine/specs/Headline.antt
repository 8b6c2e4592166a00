-- What a gas day's book does, whatever calls come in whatever order: said of every legal history.
use Rattle.std.specs.Prelude.{◌≡◌, ℕ, ◌+◌, ◌<◌, ◌≤◌, true, List, length, take, slice_get, Some}
use Rattle.std.specs.List.{All}
use Rattle.gd_rules.specs.Limits.{cycles}
use Rattle.gd_rules.specs.Schedule.{IsAllowed}
use Rattle.gd_rules.specs.Spread.{IsBest}
use Rattle.gd_rules.specs.Lines.{Nomination, until, intake}
use Rattle.gd_certificate.specs.Checked.{Certificate}
use Rattle.gd_certificate.specs.Cutting.{Members}
use Rattle.gd_machine.specs.declared.event.Event.{Event}
use Rattle.gd_machine.specs.declared.event.Event.TheVariants.{Freeze, Publish, Declare}
use Rattle.gd_machine.specs.declared.reply.Reply.{Reply}
use Rattle.gd_machine.specs.Day.{Day, IsDay}
use Rattle.gd_machine.specs.History.{History, cycle_of, is_frozen}
use Rattle.gd_machine.specs.Asking.{question, nomination_of, nominations, counted}
use Rattle.gd_machine.specs.Machine.{IsLegal, AllPass}

-- The pair with this number from 0 is one of the history.
abbrev pub IsAt : History → ℕ → Event × Reply → Type 0
IsAt h k p = slice_get h k ≡ Some p

-- Each schedule that is published is allowed and best for the question of its frozen cycle.
abbrev pub PublishesBest : Day → History → Type 0
PublishesBest day h =
    (k moment : ℕ) (certificate : Certificate) (reply : Reply) → IsAt h k (Publish moment certificate, reply)
    → (certificate.question ≡ question day (take k h)) × IsAllowed (question day (take k h)).asked certificate.schedule × IsBest (question day (take k h)).asked certificate.schedule

-- Where a cycle is declared impossible no schedule is allowed.
abbrev pub DeclaresImpossible : Day → History → Type 0
DeclaresImpossible day h =
    (k moment round : ℕ) (cut : Members) (reply : Reply) → IsAt h k (Declare moment round cut, reply)
    → (schedule : List ℕ) → IsAllowed (question day (take k h)).asked schedule → ⊥

-- Timely is never declared impossible.
abbrev pub SparesTimely : History → Type 0
SparesTimely h = (k moment round : ℕ) (cut : Members) (reply : Reply) → IsAt h k (Declare moment round cut, reply) → 1 < cycle_of (take k h)

-- How many nominations are accepted for a cycle.
abbrev pub taken_in : Day → History → ℕ → ℕ
taken_in day h cycle = length (intake (nominations day h) cycle)

-- Each accepted nomination stands in the intake of one cycle from 1 to 5 alone: it makes that one longer by itself, and the others not.
abbrev pub StandsInOne : Day → History → Type 0
StandsInOne day h =
    (k : ℕ) (p : Event × Reply) (n : Nomination) → IsAt h k p → nomination_of day p ≡ Some n
    → (1 ≤ n.cycle) × (n.cycle ≤ cycles)
    × (taken_in day (take (k + 1) h) n.cycle ≡ taken_in day (take k h) n.cycle + 1)
    × ((other : ℕ) → (other ≡ n.cycle → ⊥) → intake (nominations day (take (k + 1) h)) other ≡ intake (nominations day (take k h)) other)

-- The nominations that count where a cycle is frozen are exactly those of the whole history that are for it or for a former one: none is accepted afterwards.
abbrev pub ClosesIntakes : Day → History → Type 0
ClosesIntakes day h =
    (k moment : ℕ) (reply : Reply) → IsAt h k (Freeze moment, reply)
    → counted day (take k h) ≡ until (cycle_of (take k h)) (nominations day h)

-- The cycle was frozen by one of the first so many events.
abbrev pub FrozenBefore : History → ℕ → ℕ → Type 0
FrozenBefore h count cycle =
    (k : ℕ) × (moment : ℕ) × (reply : Reply) × (k < count) × IsAt h k (Freeze moment, reply) × (cycle_of (take k h) ≡ cycle)

-- Where a cycle is frozen it and each cycle before it were frozen, one that was skipped too: a cut was declared in that.
abbrev pub FreezesEach : History → Type 0
FreezesEach h = (k cycle : ℕ) → is_frozen (take k h) ≡ true → 1 ≤ cycle → cycle ≤ cycle_of (take k h) → FrozenBefore h k cycle

-- So each nomination that counts there is of a cycle that was frozen: one whose cycle never is stands in its intake, and in no question.
abbrev pub AsksFrozen : Day → History → Type 0
AsksFrozen day h = (k : ℕ) → is_frozen (take k h) ≡ true → All (λ n. FrozenBefore h k n.cycle) (counted day (take k h))

-- Each accepted nomination is counted in exactly one cycle.
abbrev pub CountsOnce : Day → History → Type 0
CountsOnce day h = StandsInOne day h × ClosesIntakes day h × FreezesEach h × AsksFrozen day h

-- The headline of a history.
pub record Holds (day : Day) (h : History) : Type 0 where
  pub published : PublishesBest day h
  pub declared : DeclaresImpossible day h
  pub timely : SparesTimely h
  pub counted : CountsOnce day h

-- The history of a book with these opening values: legal, each certificate passed the check, and so it holds.
abbrev pub IsHistoryOf : Day → History → Type 0
IsHistoryOf day h = IsLegal day h × AllPass h × Holds day h

-- The whole promise: it holds of every legal history whose certificates passed the check.
abbrev pub Headline : Type 0
Headline = (day : Day) (h : History) → IsDay day → IsLegal day h → AllPass h → Holds day h
