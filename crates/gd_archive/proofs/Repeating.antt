-- Refusals of comparing.
use Rattle.std.proofs.Common.{◌≡◌, inl, Option, Result, Ok, Err, IsErrAnd, sym, subst}
use Rattle.sqlite.specs.State.{State}
use Rattle.gd_archive_store.specs.Calls.{IsStopped}
use Rattle.gd_archive_store.specs.declared.fault.StoreFault.{StoreFault}
use Rattle.gd_archive_store.specs.declared.fault.StoreFault.TheVariants as store_fault
use Rattle.gd_board.specs.declared.posting.Posting.{Posting}
use Rattle.gd_archive.specs.Calls.{Compares}
use Rattle.gd_archive.specs.declared.repeat.Repeat.{Repeat}

module _ (old new : State) (p : Posting) where
  compare_stopped : (f : StoreFault) → IsStopped old new f → Compares old new p (Err f)
  compare_stopped store_fault.OldVersion h = h
  compare_stopped (store_fault.Store e) h = (h.0, λ says. h.1 (inl says))

  -- what stops the search for a row stops the comparison
  pub compares_stopped : (r : Result (Option Repeat) StoreFault) (f : StoreFault) → IsErrAnd r (λ g. g ≡ f) → IsStopped old new f → Compares old new p r
  compares_stopped (Ok found) f h stopped = absurd h
  compares_stopped (Err g) f h stopped = subst (λ x. Compares old new p (Err x)) (sym h) (compare_stopped f stopped)
