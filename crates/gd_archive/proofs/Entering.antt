-- Keeping a posting, by what the store says of its book and cycle.
use Rattle.std.proofs.Common.{◌≡◌, ℕ, List, Result, Ok, Err, IsErrAnd, sym, subst}
use Rattle.sqlite.specs.State.{State}
use Rattle.gd_board.specs.declared.posting.Posting.{Posting}
use Rattle.gd_archive_store.specs.Contents.{entry, IsEntered}
use Rattle.gd_archive_store.specs.Calls.{Frees, IsRefusedFor}
use Rattle.gd_archive_store.specs.declared.fault.KeepFault.{KeepFault}
use Rattle.gd_archive.specs.Calls.{Keeps}

pub keeps_err : (old new : State) (p : Posting) (r : Result (Unit {0}) KeepFault) (f : KeepFault) → IsErrAnd r (λ g. g ≡ f) → IsRefusedFor old new p.book p.cycle f → Keeps old new p r
keeps_err old new p (Ok u) f h refused = absurd h
keeps_err old new p (Err g) f h refused = subst (IsRefusedFor old new p.book p.cycle) (sym h) refused

module _ (old new : State) (p : Posting) (book : List ℕ) (cycle : ℕ) (is_book : book ≡ p.book) (is_cycle : cycle ≡ p.cycle) where
  pub refused_of : (f : KeepFault) → IsRefusedFor old new book cycle f → IsRefusedFor old new p.book p.cycle f
  refused_of f h = subst (λ (n : ℕ). IsRefusedFor old new p.book n f) is_cycle (subst (λ (b : List ℕ). IsRefusedFor old new b cycle f) is_book h)

  pub free_of : Frees old new book cycle (Ok tt) → Frees old new p.book p.cycle (Ok tt)
  free_of h = subst (λ (n : ℕ). Frees old new p.book n (Ok tt)) is_cycle (subst (λ (b : List ℕ). Frees old new b cycle (Ok tt)) is_book h)

  -- where the round and the body are the posting's too
  pub entered_of : (round : ℕ) (text body : List ℕ) → IsEntered old.now new.now book cycle (entry round text 2) × (new.committed ≡ new.now) → round ≡ p.round → text ≡ body → IsEntered old.now new.now p.book p.cycle (entry p.round body 2) × (new.committed ≡ new.now)
  entered_of round text body h is_round is_body = (
    subst (λ (n : ℕ). IsEntered old.now new.now p.book n (entry p.round body 2)) is_cycle
        (subst (λ (b : List ℕ). IsEntered old.now new.now b cycle (entry p.round body 2)) is_book
        (subst (λ (n : ℕ). IsEntered old.now new.now book cycle (entry n body 2)) is_round
        (subst (λ (t : List ℕ). IsEntered old.now new.now book cycle (entry round t 2)) is_body h.0))),
    h.1,
  )
