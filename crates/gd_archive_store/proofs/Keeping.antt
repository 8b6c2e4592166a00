-- The statements of `find` and `expect_free` in turn.
use Rattle.std.proofs.Common.{length, arith, ◌≡◌, ◌≢◌, ℕ, List, [], ◌∷◌, ◌++◌, Option, None, Some, Result, Ok, Err, IsErrAnd, inl, inr, append-nil, refl, sym, ap, subst, ◌∙◌}
use Rattle.std.specs.Option.{option_to_list}
use Rattle.std.specs.List.Sorted.{IsPermutation}
use Rattle.std.proofs.lemmas.List.Sorted.{IsPermutation-trans, IsPermutation-middle}
use Rattle.sqlite.specs.Order.{Row}
use Rattle.sqlite.specs.Effect.{Database}
use Rattle.sqlite.specs.State.{State, IsUnchanged}
use Rattle.sqlite.proofs.Callers.{unchanged_then}
use Rattle.sqlite.specs.declared.error.Error.{Error}
use Rattle.gd_archive_store.specs.declared.fault.StoreFault.{StoreFault}
use Rattle.gd_archive_store.specs.declared.fault.StoreFault.TheVariants as store_fault
use Rattle.gd_archive_store.specs.declared.fault.KeepFault.{KeepFault}
use Rattle.gd_archive_store.specs.declared.fault.KeepFault.TheVariants as keep_fault
use Rattle.gd_archive_store.specs.Calls.{kept_fault, IsStopped, IsTaken, IsRefusedFor, IsKept, Finds, Frees}
use Rattle.gd_archive_store.specs.Contents.{kept_at, SaysVersion, IsArchive, IsEntered, IsKnown, IsSettled, IsSame, IsCutOff}
use Rattle.gd_archive_store.specs.Stages.{IsRefused}
use Rattle.gd_archive_store.proofs.Refusing.{same_after}
use Rattle.gd_archive_store.specs.Tables.{version_2}
use Rattle.gd_archive_store.proofs.Reading.{none_there, some_there}

-- what is answered of a refusal
pub finds_err : (old new : State) (book : List ℕ) (cycle : ℕ) (r : Result (Option Row) StoreFault) (f : StoreFault) → IsErrAnd r (λ g. g ≡ f) → IsStopped old new f → Finds old new book cycle r
finds_err old new book cycle (Ok o) f h stopped = absurd h
finds_err old new book cycle (Err g) f h stopped = subst (IsStopped old new) (sym h) stopped

taken_known : (old : State) (book : List ℕ) (cycle : ℕ) → IsTaken old old book cycle → IsKnown old.now
taken_known old book cycle (inl says) = inl says
taken_known old book cycle (inr h) = inr h.0

refused_for : (old new : State) (book : List ℕ) (cycle : ℕ) (f : StoreFault) → IsStopped old new f → IsRefusedFor old new book cycle (kept_fault f)
refused_for old new book cycle store_fault.OldVersion h = h
refused_for old new book cycle (store_fault.Store e) h = (h.0, λ taken. h.1 (taken_known old book cycle taken))

pub frees_err : (old new : State) (book : List ℕ) (cycle : ℕ) (r : Result (Unit {0}) KeepFault) (f : StoreFault) → IsErrAnd r (λ k. k ≡ kept_fault f) → IsStopped old new f → Frees old new book cycle r
frees_err old new book cycle (Ok u) f h stopped = absurd h
frees_err old new book cycle (Err k) f h stopped = subst (IsRefusedFor old new book cycle) (sym h) (refused_for old new book cycle f stopped)

-- a query that was cut off behind the reading of the version
pub cut_short : (old mid late : State) (e : Error) → IsArchive old.now 2 × IsUnchanged old mid × IsSettled old → IsRefused mid late → IsCutOff e → IsStopped old late (store_fault.Store e)
cut_short old mid late e is refused cut =
    let settled : IsSettled mid = record { mode = is.1.0.mode ∙ is.2.mode; now = is.1.0.now_is ∙ is.2.now ∙ sym is.1.0.committed_is } in
    (λ up. same_after mid late settled refused up ∙ is.1.0.now_is, λ known. inr cut)

pub two_versions : (db : Database) → SaysVersion db 1 → IsArchive db 2 → ⊥
two_versions db says is = let no = sym says.version ∙ is.version in cc

-- what is free is not taken, whatever stops what comes next
pub then_refused : (old mid new : State) (book : List ℕ) (cycle : ℕ) (e : Error) → Frees old mid book cycle (Ok tt) → IsSame mid new → IsRefusedFor old new book cycle (keep_fault.Store e)
then_refused old mid new book cycle e free same = (λ up. same up ∙ free.1.0.now_is, λ taken. absurd (no taken))
  where
    no : IsTaken old old book cycle → ⊥
    no (inl says) = two_versions old.now says free.0.archive
    no (inr h) = h.1 free.0.none

-- no transaction is open behind it either
pub free_settled : (old mid : State) (book : List ℕ) (cycle : ℕ) → Frees old mid book cycle (Ok tt) → IsSettled mid
free_settled old mid book cycle free = record { mode = free.1.0.mode ∙ free.0.settled.mode; now = free.1.0.now_is ∙ free.0.settled.now ∙ sym free.1.0.committed_is }

-- a posting that was entered where it was free is kept
pub then_kept : (old mid new : State) (book : List ℕ) (cycle : ℕ) (kept : Row) → Frees old mid book cycle (Ok tt) → IsEntered mid.now new.now book cycle kept × (new.committed ≡ new.now) → IsKept old new book cycle kept
then_kept old mid new book cycle kept free h = (free.0.archive, free.0.none, subst (λ (d : Database). IsEntered d new.now book cycle kept) free.1.0.now_is h.0, h.1)

pub free_archive : (old mid : State) (book : List ℕ) (cycle : ℕ) → Frees old mid book cycle (Ok tt) → IsArchive mid.now 2
free_archive old mid book cycle free = subst (λ (d : Database). IsArchive d 2) (sym free.1.0.now_is) free.0.archive

last_first : (xs : List Row) (row : Row) → IsPermutation (xs ++ row ∷ []) (row ∷ xs)
last_first xs row = subst (λ ys. IsPermutation (xs ++ row ∷ []) (row ∷ ys)) (append-nil xs) (IsPermutation-middle xs row [])

module _ (old mid late : State) (book : List ℕ) (cycle : ℕ) (is : IsArchive old.now 2 × IsUnchanged old mid × IsSettled old) where
  pub still : mid.now.schema ≡ version_2
  still = ap (λ (d : Database). d.schema) is.1.0.now_is ∙ is.0.schema

  module _ (items : List Row) (found : IsPermutation (kept_at mid.now book cycle) items × IsUnchanged mid late) where
    pub all_same : late.now ≡ old.now
    all_same = found.1.0.now_is ∙ is.1.0.now_is

    shown : IsPermutation (kept_at old.now book cycle) items
    shown = subst (λ (d : Database). IsPermutation (kept_at d book cycle) items) is.1.0.now_is found.0

    pub finds_some : (items ≡ [] → ⊥) → IsArchive old.now 2 × (kept_at old.now book cycle ≢ []) × IsSame old late
    finds_some some = (is.0, some_there _ items shown some, λ _. all_same)

    pub finds_none : length items ≡ 0 → Frees old late book cycle (Ok tt)
    finds_none none = (record { archive = is.0; none = none_there _ items shown (none_of items none); settled = is.2 }, unchanged_then old mid late is.1 found.1)
      where
        none_of : (xs : List Row) → length xs ≡ 0 → xs ≡ []
        none_of [] e = refl
        none_of (x ∷ xs) e = absurd (omega (arith, e))

    -- the last row that is shown, as it is answered
    pub finds_last : (rest : List Row) (o : Option Row) → items ≡ rest ++ option_to_list o → (o ≡ None → items ≡ []) → Finds old late book cycle (Ok o)
    finds_last rest None cut none = (is.0, none_there _ items shown (none refl), all_same)
    finds_last rest (Some row) cut none =
        (is.0, (rest, IsPermutation-trans _ _ _ (subst (IsPermutation (kept_at old.now book cycle)) cut shown) (last_first rest row)), all_same)
