-- What a fault says of receipts, and how it is printed.
use Rattle.std.specs.Prelude.{ℕ, List, codes}
use Rattle.gd_machine.specs.Day.{Day}
use Rattle.gd_machine.specs.History.{History}
use Rattle.gd_office_part.specs.declared.kept.Receipt.{Receipt}
use Rattle.gd_reconcile.specs.declared.mismatch.ReceiptsFault.{ReceiptsFault}
use Rattle.gd_reconcile.specs.declared.mismatch.ReceiptsFault.TheVariants.{Mismatch, OutOfMemory}
use Rattle.gd_reconcile.specs.Fitting.{IsFirstMisfit}

abbrev pub receipts_fault_name : ReceiptsFault → List ℕ
receipts_fault_name (Mismatch m) = codes "Mismatch"
receipts_fault_name OutOfMemory = codes "OutOfMemory"

-- A mismatch names the first receipt that does not fit. Want of memory says nothing of them.
abbrev pub Explains : Day → History → List (List Receipt) → ReceiptsFault → Type 0
Explains day h lists (Mismatch m) = IsFirstMisfit day h lists m.list m.index
Explains day h lists OutOfMemory = Unit {0}
