-- What a statement that is refused leaves.
use Rattle.std.proofs.Common.{◌≡◌, inl, inr, ℕ, List, Bool, true, false, None, Some, Option, Ok, Err, Result, OnErr, MatchBool, sym, ◌∙◌}
use Rattle.sqlite.specs.Order.{Row}
use Rattle.sqlite_schema.specs.declared.command.Returning.{Returning}
use Rattle.sqlite_resolve.specs.declared.compiled.Compiled.{Compiled}
use Rattle.sqlite.specs.declared.error.Error.{Error}
use Rattle.sqlite.specs.declared.error.Error.TheVariants.{ExecuteReturnedResults}
use Rattle.sqlite.specs.State.{State, IsNotRun, IsUnchanged, RunsCommand, Executes, ExecutesIn, FailsToQuery, FailsToShow}
use Rattle.gd_archive_store.specs.Contents.{IsSettled, IsSame}
use Rattle.gd_archive_store.specs.Stages.{IsRefused}

not_run : (old new : State) (sql : List ℕ) (params : Row) (e : Error) → IsNotRun old new sql params e → IsRefused old new
unfolding IsNotRun
not_run old new sql params e (inl h) = inl h.1
not_run old new sql params e (inr h) = inr h.3

command_refused : (old new : State) (sql : List ℕ) (c : Compiled) (params : Row) (e : Error) → RunsCommand old new sql c params (Err e) → IsRefused old new
command_refused old new sql c params e (inl h) = inl h.1
command_refused old new sql c params e (inr h) = inr h.3

alone_refused : (old new : State) (sql : List ℕ) (c : Compiled) (params : Row) (e : Error) (b : Bool) → MatchBool b (◌≡◌ {A = Result ℕ Error} (Err e) (Err ExecuteReturnedResults) × IsUnchanged old new) (RunsCommand old new sql c params (Err e)) → IsRefused old new
alone_refused old new sql c params e true h = inl h.1
alone_refused old new sql c params e false h = command_refused old new sql c params e h

pub execute_refused : (old new : State) (sql : List ℕ) (params : Row) (e : Error) → Executes sql params old new (Err e) → IsRefused old new
unfolding ExecutesIn
execute_refused old new sql params e (inl h) = not_run old new sql params e h
execute_refused old new sql params e (inr h) = alone_refused old new sql h.0 _ e _ h.2

show_refused : (old new : State) (sql : List ℕ) (c : Compiled) (params : Row) (e : Error) (r : Option Returning) → FailsToShow old new sql c params e r → IsRefused old new
show_refused old new sql c params e None h = inl h.3
show_refused old new sql c params e (Some what) h = command_refused old new sql c params e h

pub query_refused : (old new : State) (sql : List ℕ) (params : Row) (e : Error) → FailsToQuery sql params old new e → IsRefused old new
unfolding FailsToQuery
query_refused old new sql params e (inl h) = not_run old new sql params e h
query_refused old new sql params e (inr h) = show_refused old new sql h.0 _ e _ h.2

pub execute_error : (old new : State) (sql : List ℕ) (params : Row) (r : Result ℕ Error) → Executes sql params old new r → OnErr r (IsRefused old new)
execute_error old new sql params (Ok n) h = tt
execute_error old new sql params (Err e) h = execute_refused old new sql params e h

-- outside a transaction what was refused left all as it was
pub same_after : (old new : State) → IsSettled old → IsRefused old new → IsSame old new
same_after old new settled (inl h) up = h.0.now_is
same_after old new settled (inr h) up = (h.undone up).0 ∙ sym settled.now

pub refused_same : (old new : State) (r : Result ℕ Error) → IsSettled old → OnErr r (IsRefused old new) → OnErr r (IsSame old new)
refused_same old new (Ok n) settled h = tt
refused_same old new (Err e) settled h = same_after old new settled h
