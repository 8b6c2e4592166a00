-- How runs end, and what is told of that.
use Rattle.std.specs.Prelude.{IfSome, IsErrAnd}
use Rattle.std.proofs.Common.{◌≡◌, ◌⊎◌, inl, inr, ℕ, List, ◌++◌, Option, Some, None, Result, Ok, Err, IfOk, IfErr, refl, sym, subst}
use Rattle.sqlite.specs.Effect.{Database}
use Rattle.sqlite.specs.State.{State, HasCleanDisk}
use Rattle.gd_serving.specs.declared.failure.Failure.{Failure}
use Rattle.gd_live.specs.Stands.{Stand}
use Rattle.gasday_part.specs.AnswerSeen.{answer_seen}
use Rattle.gasday_part.specs.Answers.{Told, one, no_memory}
use Rattle.gasday_part.specs.Output.{Written, WritesTold}
use Rattle.gasday_part.specs.declared.answer.Answer.{Answer}
use Rattle.gasday_part.specs.declared.opened.NoBook.{NoBook}
use Rattle.gasday_live.specs.Beginnings.{ExplainsNoRun, TellsNoRun}
use Rattle.gasday_live.specs.declared.beginning.NoRun.{NoRun}
use Rattle.gasday_live.specs.declared.beginning.NoRun.TheVariants.{Opening, File}
use Rattle.gasday_live.specs.declared.lines.Ending.{Ending}
use Rattle.gasday_live.specs.Runs.{Found, found_at, HasNoBook, KeptNone, Begins, ComesToEnd, Stops, Serves, OpensUntold, ServesOpened, TellsUnbegun, Runs, TellsFailure, TellsFinish}
use Rattle.gasday_live.proofs.ToldRows.{status_2}

module _ (found : Found) (start : Stand) (new : State) (told mid behind : Option (List ℕ)) (bytes : List ℕ) (status : ℕ) where
  -- lines were served, and how that ended is told
  pub serves_so : (ended : Result Ending Failure) (rest : Option (List ℕ)) → IfOk ended (λ it. IfSome rest (λ rest. ComesToEnd found start (bytes ++ rest) new told mid it.finish it.has_fault))
      → IfErr ended (λ why. IfSome rest (λ rest. Stops found start (bytes ++ rest) new told mid why))
      → IfOk ended (λ it. TellsFinish mid behind it.has_fault it.finish status) → IfErr ended (λ why. TellsFailure mid behind why status)
      → IfSome rest (λ rest. Serves found start new told behind status (bytes ++ rest))
  serves_so ended None ends stops finish failure = tt
  serves_so (Ok it) (Some rest) ends stops finish failure = inl (record { mid = mid; finish = it.finish; is_faulty = it.has_fault; ended = ends; tells = finish })
  serves_so (Err why) (Some rest) ends stops finish failure = inr (record { mid = mid; why = why; stopped = stops; tells = failure })

-- a run on a book that was begun
pub run_of : {H : Type 0} (state : H → State) (all rest : Option (List ℕ)) (start : Stand) (calls next : ℕ) (was : State) (mid new : H) (bytes : List ℕ) (before behind : Option (List ℕ)) (status : ℕ) → (begun : Begins was.now all rest bytes calls next start (state mid))
    → OpensUntold (found_at was.now begun.head calls) start (state new) before behind status ⊎ ServesOpened (found_at was.now begun.head calls) start (state new) bytes rest before behind status → Runs all was (state new) before behind status
run_of state all rest start calls next was mid new bytes before behind status begun serves = inr (record {
  found = found_at was.now begun.head calls;
  had = refl;
  start = start;
  bytes = bytes;
  rest = rest;
  read = begun.read;
  head = begun.is_head;
  serves = serves;
})

-- ---- a run that takes no line

-- the head of the input opens no book
opening_explains : (all : Option (List ℕ)) (had : Database) (new : State) (why : NoRun) (fault : NoBook) → why ≡ Opening fault → HasNoBook all fault
    → (HasCleanDisk new → KeptNone had) → ExplainsNoRun all had new why
opening_explains all had new why fault is none kept = subst (ExplainsNoRun all had new) (sym is) (none, kept)

pub none_opened : {T : Type 0} (r : Result T NoRun) (all : Option (List ℕ)) (had : Database) (new : State) (fault : NoBook) → IsErrAnd r (λ why. why ≡ Opening fault)
    → HasNoBook all fault → (HasCleanDisk new → KeptNone had) → IfErr r (ExplainsNoRun all had new)
none_opened (Ok x) all had new fault is none kept = tt
none_opened (Err why) all had new fault is none kept = opening_explains all had new why fault is none kept

-- why is told
pub untaken : {E : Type 0} (r : Result Answer E) (why : NoRun) (all : Option (List ℕ)) (was new : State) (before behind : Option (List ℕ)) (status : ℕ)
    → ((told : Told) → IfOk r (λ a. answer_seen a ≡ told) → Written before behind status told) → IfOk r (λ a. TellsNoRun why (answer_seen a)) → ExplainsNoRun all was.now new why
    → WritesTold (λ a. TellsUnbegun all was new a ⊎ (a ≡ one no_memory 2)) before behind status
untaken (Ok a) (Opening why) all was new before behind status written tells explains =
    (answer_seen a, inl (inl (why, explains.0, explains.1, tells)), written (answer_seen a) refl)
untaken (Ok a) (File why) all was new before behind status written tells explains =
    (answer_seen a, inl (inr (why, explains, tells)), written (answer_seen a) refl)
untaken (Err e) why all was new before behind status written tells explains = (one no_memory 2, inr refl, written (one no_memory 2) tt)

-- ---- failures

-- an answer with status 2 that is told of a failure
pub told_2 : (before behind : Option (List ℕ)) (status : ℕ) (a : Told) → a.status ≡ 2 → Written before behind status a → Written before behind status a × (status ≡ 2)
told_2 before behind status a two written = (written, status_2 before behind status a written two)
