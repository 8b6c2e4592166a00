-- What a book tells of receipts, of some history of it.
use Rattle.std.proofs.Common.{◌≡◌, ℕ, List, length, Result, Ok, Err, IfOk, IfErr, OnOk}
use Rattle.gd_machine.specs.Day.{Day}
use Rattle.gd_machine.specs.History.{History}
use Rattle.gd_machine.specs.Headline.{IsHistoryOf}
use Rattle.gd_office_part.specs.declared.kept.Receipt.{Receipt}
use Rattle.gd_office_part.specs.Days.{IsDayOf}
use Rattle.gd_reconcile.specs.declared.mismatch.ReceiptsFault.{ReceiptsFault}
use Rattle.gd_reconcile.specs.declared.mismatch.ReceiptsFault.TheVariants as receipts
use Rattle.gd_reconcile.specs.Fitting.{Fit}
use Rattle.gd_reconcile.specs.Explaining.{Explains}
use Rattle.gd_office.specs.Reconciling.{FitAsMany, ExplainsMisfit}

module _ (days : List Day) (slot : ℕ) (day : Day) (h : History) (lists : List (List Receipt)) (own : IsDayOf days slot day) (whole : IsHistoryOf day h) where
  pub fit_as_many : (r : Result ℕ ReceiptsFault) → IfOk r (λ n. length h ≡ n) → OnOk r (Fit day h lists) → IfOk r (FitAsMany days slot lists)
  fit_as_many (Ok n) long fit = (day, h, own, whole, long, fit)
  fit_as_many (Err e) long fit = tt

  pub explained : (r : Result ℕ ReceiptsFault) → IfErr r (Explains day h lists) → IfErr r (ExplainsMisfit days slot lists)
  explained (Ok n) x = tt
  explained (Err (receipts.Mismatch m)) x = (day, h, own, whole, x)
  explained (Err receipts.OutOfMemory) x = tt
