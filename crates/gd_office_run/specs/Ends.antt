-- How slots end.
use Rattle.std.specs.Prelude.{◌≡◌, ℕ, ◌+◌, ◌-◌, ◌==◌, List, ◌∷◌, length, get_or, sum_by, if◌then◌else◌}
use Rattle.gd_machine.specs.Day.{Day}
use Rattle.gd_machine.specs.Headline.{IsHistoryOf}
use Rattle.gd_machine.specs.History.{History}
use Rattle.gd_machine.specs.Asking.{accepted}
use Rattle.gd_office_part.specs.declared.kept.Receipt.{Receipt}
use Rattle.gd_office_part.specs.declared.numbers.Numbers.{Numbers}
use Rattle.gd_office_part.specs.Counting.{plus, numbers_of}
use Rattle.gd_office_part.specs.Days.{IsDayOf}
use Rattle.gd_reconcile.specs.declared.mismatch.Mismatch.{Mismatch}
use Rattle.gd_reconcile.specs.Fitting.{Fit, IsFirstMisfit}
use Rattle.gd_office_run.specs.declared.end.End.{End}
use Rattle.gd_office_run.specs.declared.end.End.TheVariants as end

-- The number of a list: 0 for the desk's, which is the first, and else its session's.
abbrev pub list_number : List ℕ → ℕ → ℕ
list_number numbers list = if list == 0 then 0 else get_or numbers (list - 1) 0

-- What sessions counted together.
abbrev pub total : List Numbers → Numbers
total counts = record {
  calls = sum_by (λ c. c.calls) counts;
  nominations = sum_by (λ c. c.nominations) counts;
  dekatherms = sum_by (λ c. c.dekatherms) counts;
}

-- The sums that sessions are closed with are what a history accepted, and all receipts fit it; else the first one that does not is named, or the sums differ.
abbrev pub Holds : Day → History → List (List Receipt) → List ℕ → ℕ × ℕ → End → Type 0
Holds day h lists numbers sums (end.Reconciled events n q) =
    Fit day h lists × (length h ≡ events) × (accepted day h ≡ (n, q)) × (sums ≡ (n, q))
Holds day h lists numbers sums (end.Misfit list index) =
    (m : Mismatch) × IsFirstMisfit day h lists m.list m.index × (list ≡ list_number numbers m.list) × (index ≡ m.index + 1)
Holds day h lists numbers sums (end.Missing count) = (count ≡ 0) × (accepted day h ≡ sums → ⊥)

-- A slot ends by the history of its book. It is reconciled, with what was accepted, only where all receipts fit that, and its sessions counted as much; else the first receipt that does not fit is named. Or so many of its open sessions are missing, or what they counted, with what was counted before them, is not what the book accepted.
abbrev pub EndsOver : Day → History → List (List Receipt) → List ℕ → List Numbers → End → Type 0
EndsOver day h lists numbers counts (end.Missing count) =
    (live : ℕ) × (before : Numbers) × (count ≡ live - length counts)
    × ((length counts ≡ live) × (plus before (total counts) ≡ numbers_of (record { day = day; history = h })) → ⊥)
EndsOver day h lists numbers counts e = Holds day h lists numbers ((total counts).nominations, (total counts).dekatherms) e

-- So a slot ends by some history of its own book.
abbrev pub EndsAs : List Day → ℕ → List (List Receipt) → List ℕ → List Numbers → End → Type 0
EndsAs days slot lists numbers counts e =
    (day : Day) × (h : History) × IsDayOf days slot day × IsHistoryOf day h × EndsOver day h lists numbers counts e

-- The end of a slot with the receipts of its desk, the lists of its sessions, the sessions' numbers, and what each counted.
abbrev pub EndsWith : List Day → ℕ → List Receipt → List (List Receipt) → List ℕ → List Numbers → End → Type 0
EndsWith days slot desk lists numbers counts e = EndsAs days slot (desk ∷ lists) numbers counts e
