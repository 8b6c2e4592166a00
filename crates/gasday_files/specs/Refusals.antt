-- What comes of an order of which no text can be read.
use Rattle.std.specs.Prelude.{◌≡◌, ◌⊎◌, ℕ, List, Option, None}
use Rattle.sqlite.specs.Held.{Held}
use Rattle.gasday_part.specs.Answers.{fault_answer, no_memory, one}
use Rattle.gasday_part.specs.Output.{WritesTold}
use Rattle.gasday_files.specs.declared.input.Unread.{Unread}
use Rattle.gasday_files.specs.declared.input.Unread.TheVariants as unread

-- of standard input that gives no text the fault is written, and nothing of a file that can't be read
abbrev pub WritesUnread : Unread → Option (List ℕ) → Option (List ℕ) → Type 0
WritesUnread (unread.File name error) before behind = behind ≡ before
WritesUnread (unread.Standard fault error) before behind =
    (status : ℕ) × WritesTold (λ a. (a ≡ fault_answer fault) ⊎ (a ≡ one no_memory 2)) before behind status

-- Where no text can be read for this reason no file comes back, the status is 2, and that is written.
abbrev pub RefusesFor : {S : Type 0} → Unread → Option (Held S) → Option (List ℕ) → Option (List ℕ) → ℕ → Type 0
RefusesFor why left before behind status = (left ≡ None) × (status ≡ 2) × WritesUnread why before behind

-- no text can be read, for a reason of this kind
abbrev pub Refuses : {S : Type 0} → (Unread → Type 0) → Option (Held S) → Option (List ℕ) → Option (List ℕ) → ℕ → Type 0
Refuses blames left before behind status = (why : Unread) × blames why × RefusesFor why left before behind status
