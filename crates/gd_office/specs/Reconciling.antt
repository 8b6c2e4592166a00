-- Receipts against the one history behind a lock.
use Rattle.std.specs.Prelude.{◌≡◌, ◌≢◌, ℕ, List, length, None, codes}
use Rattle.gd_machine.specs.Day.{Day}
use Rattle.gd_machine.specs.History.{History}
use Rattle.gd_machine.specs.Headline.{IsHistoryOf}
use Rattle.gd_office_part.specs.declared.kept.Receipt.{Receipt}
use Rattle.gd_office_part.specs.Days.{IsDayOf}
use Rattle.gd_office_part.specs.Seen.{Slot}
use Rattle.gd_reconcile.specs.declared.mismatch.Mismatch.{Mismatch}
use Rattle.gd_reconcile.specs.declared.mismatch.ReceiptsFault.{ReceiptsFault}
use Rattle.gd_reconcile.specs.declared.mismatch.ReceiptsFault.TheVariants as receipts
use Rattle.gd_reconcile.specs.Fitting.{Fit, IsFirstMisfit}
use Rattle.gd_office.specs.declared.reconciling.ReconcileFault.{ReconcileFault}
use Rattle.gd_office.specs.declared.reconciling.ReconcileFault.TheVariants as fault
use Rattle.gd_office.specs.Slots.{slot_of}

-- All receipts fit one history of this length, of the book with the opening values of this slot.
abbrev pub FitAsMany : List Day → ℕ → List (List Receipt) → ℕ → Type 0
FitAsMany days slot lists n = (day : Day) × (h : History) × IsDayOf days slot day × IsHistoryOf day h × (length h ≡ n) × Fit day h lists

-- The receipt at this place is the first that does not fit one history of that book together with those before it.
abbrev pub MisfitAt : List Day → ℕ → List (List Receipt) → Mismatch → Type 0
MisfitAt days slot lists m = (day : Day) × (h : History) × IsDayOf days slot day × IsHistoryOf day h × IsFirstMisfit day h lists m.list m.index

-- A receipt does not fit, or memory was wanting.
abbrev pub ExplainsMisfit : List Day → ℕ → List (List Receipt) → ReceiptsFault → Type 0
ExplainsMisfit days slot lists (receipts.Mismatch m) = MisfitAt days slot lists m
ExplainsMisfit days slot lists receipts.OutOfMemory = Unit {0}

-- There is no slot of this number; else a receipt does not fit, or memory was wanting.
abbrev pub ExplainsReconcile : List Day → List Slot → ℕ → List (List Receipt) → ReconcileFault → Type 0
ExplainsReconcile days slots number lists fault.UnknownSlot = slot_of slots number ≡ None
ExplainsReconcile days slots number lists (fault.Mismatch m) = (slot_of slots number ≢ None) × MisfitAt days number lists m
ExplainsReconcile days slots number lists fault.OutOfMemory = slot_of slots number ≢ None

abbrev pub reconcile_fault_name : ReconcileFault → List ℕ
reconcile_fault_name fault.UnknownSlot = codes "UnknownSlot"
reconcile_fault_name (fault.Mismatch m) = codes "Mismatch"
reconcile_fault_name fault.OutOfMemory = codes "OutOfMemory"
