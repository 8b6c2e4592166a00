-- Why a query that has the tables it names is refused.
use Rattle.std.proofs.Common.{◌≡◌, ◌≢◌, ◌⊎◌, inl, inr, ℕ, ◌≤◌, List, [], length, false, Option, Ok, Err, Result, refl, sym, ap, subst, ◌∙◌, subst₂, append-nil, arith}
use Rattle.sqlite.specs.Order.{Row}
use Rattle.sqlite_schema.specs.declared.schema.Schema.{Schema}
use Rattle.sqlite_schema.specs.declared.program.Program.{Program}
use Rattle.sqlite_schema.specs.declared.command.Command.TheVariants.{Select}
use Rattle.sqlite_resolve.specs.declared.compiled.Compiled.{Compiled}
use Rattle.sqlite_resolve.specs.declared.error.CompileError.{CompileError}
use Rattle.sqlite.specs.declared.error.Error.{Error}
use Rattle.sqlite.specs.declared.error.Error.TheVariants.{SqliteFailure, MultipleStatement, InvalidParameterCount}
use Rattle.sqlite.specs.declared.error.ErrorCode.TheVariants.{NoClock}
use Rattle.sqlite.specs.Effect.{Database, RefusesToRead}
use Rattle.sqlite.specs.Clock.{timed}
use Rattle.sqlite.specs.Listing.{understood, reads_listing, IsSourceOf}
use Rattle.sqlite.specs.State.{State, IsNotRun, IsNoStatement, FailsToShow, FailsToQuery}
use Rattle.sqlite.proofs.Callers.{IsPlain, command_of}
use Rattle.gd_archive_store.specs.Contents.{IsCutOff}

-- the text ends with its one statement, which has so many parameters
abbrev pub Fits : List ℕ → Row → Result Compiled CompileError → Type 0
Fits sql params (Ok c) = (c.tail ≡ length sql) × (length params ≡ length c.names)
Fits sql params (Err e) = ⊥

module _ (sql : List ℕ) (params : Row) (old : State) (schema : Schema) (has : old.now.schema ≡ schema) (q : Program) (names : List (List ℕ)) (is : command_of (understood schema sql) ≡ Select q names)
    (plain : IsPlain (understood schema sql)) (fits : Fits sql params (understood schema sql)) (unlisted : reads_listing schema sql ≡ false)
    (stops : (limit : Option ℕ) (e : Error) → RefusesToRead limit (Select q names) (record old.now { schema = schema }) params e → IsCutOff e) where
  abbrev IsMisfit : Compiled → Error → Type 0
  IsMisfit c e = ((¬ (length sql ≤ c.tail)) × (e ≡ MultipleStatement)) ⊎ (((length params ≢ length c.names) × (e ≡ InvalidParameterCount (length params) (length c.names))) ⊎ ((c.formats ≢ []) × (e ≡ SqliteFailure NoClock)))

  known : understood old.now.schema sql ≡ understood schema sql
  known = ap (λ s. understood s sql) has

  misfit : (c : Compiled) (e : Error) → c.tail ≡ length sql → length params ≡ length c.names → c.formats ≡ [] → IsMisfit c e → ⊥
  misfit c e tail given none (inl h) = h.0 (omega (arith, tail))
  misfit c e tail given none (inr (inl h)) = h.0 given
  misfit c e tail given none (inr (inr h)) = h.0 none

  runs : (e : Error) → IsNoStatement old sql params e → ⊥
  runs e (inl h) = subst IsPlain (sym (sym h.1 ∙ known)) plain
  runs e (inr h) =
      let same = sym h.1 ∙ known in
      let fit = subst (Fits sql params) (sym same) fits in
      let bare = subst IsPlain (sym same) plain in
      misfit h.0 e fit.0 fit.1 bare.1 h.2

  -- only the disk, memory or the limit on steps stops it
  pub cut_off : (new : State) (e : Error) → FailsToQuery sql params old new e → IsCutOff e
  unfolding FailsToQuery IsNotRun
  cut_off new e (inl (inl h)) = absurd (runs e h.0)
  cut_off new e (inl (inr h)) = inl (h.0, h.1)
  cut_off new e (inr h) =
      let same = sym h.1.is ∙ known in
      let bare = subst IsPlain (sym same) plain in
      let command = ap command_of same ∙ is in
      let given : timed params h.0.formats h.1.now ≡ params = rw (bare.1, append-nil params) refl in
      let failed = subst (FailsToShow old new sql h.0 (timed params h.0.formats h.1.now) e) bare.0 h.2 in
      let db : failed.0 ≡ old.now = subst (λ b. IsSourceOf b old.now failed.0) (ap (λ s. reads_listing s sql) has ∙ unlisted) failed.1 in
      let whole : failed.0 ≡ record old.now { schema = schema } = db ∙ ap (λ (s : Schema). record old.now { schema = s }) has in
      stops old.step_limit e (subst (λ (d : Database). RefusesToRead old.step_limit (Select q names) d params e) whole (subst₂ (λ k p. RefusesToRead old.step_limit k failed.0 p e) command given failed.2))
