-- What CREATE TABLE makes.
use Rattle.std.proofs.Common.{◌≡◌, ℕ, List, None, [], map, Ok, Err, Result, Option, OnOk, false, sym, ap, subst, ◌∙◌}
use Rattle.std.specs.List.Sorted.{IsPermutation}
use Rattle.std.proofs.lemmas.List.Sorted.{IsPermutation-refl}
use Rattle.sqlite.specs.Order.{Row}
use Rattle.sqlite.specs.Change.{created, next_tree}
use Rattle.sqlite.specs.Command.TheVariants.{CreateTable}
use Rattle.sqlite.specs.Does.{Tally, Does, lacks_sequence}
use Rattle.sqlite.specs.Effect.{Database}
use Rattle.sqlite.specs.declared.error.Error.{Error}
use Rattle.sqlite.specs.declared.run.Mode.{Mode}
use Rattle.sqlite.specs.State.{State, HasCleanDisk, Survives, mode_of, Executes, CommitsBy}
use Rattle.sqlite.specs.Listing.{understood}
use Rattle.sqlite.proofs.Callers.{statement_of, runs_as}
use Rattle.gd_journal_store.specs.Table.{piece, no_schema, journal}
use Rattle.gd_journal_store.specs.Pieces.{shown, Keeps, IsSettled, LeavesOr}
use Rattle.gd_journal_store.proofs.Texts.{create_text, create_is}
use Rattle.gd_journal_store.proofs.Committing as committing
use Rattle.gd_journal_store.proofs.Committing.{LeavesCommitted}
use Rattle.gd_journal_store.proofs.Inserting.{went, same_value}

-- a table of pieces without a row
pub made : (step : Option ℕ) (mode : Mode) (old : Database) → old.schema ≡ no_schema → (tally : Tally) (after : Database)
    → Does step mode [] old (statement_of create_text (understood no_schema create_text)) None CreateTable (Ok (tally, after)) → Keeps [] after
made step mode old has tally after changed =
    let all = went (subst (λ t. Does step mode [] old t None CreateTable (Ok (tally, after))) create_is.1 changed) in
    let first = went all.1 in
    let made = first.1 in
    let both : Ok made.table ≡ Ok piece = sym made.defined ∙ create_is.2 in
    let same : made.table ≡ piece = cc in
    let schema : first.0.schema ≡ journal = made.is ∙ ap (λ s. created s made.table) has ∙ ap (created no_schema) same in
    let plain : lacks_sequence first.0.schema ≡ false = ap lacks_sequence schema in
    let now : after ≡ first.0 = ap (λ (p : Tally × Database). p.1) (same_value all.2) ∙ same_value (rw plain at first.2) in
    let empty : after.trees 0 ≡ [] = ap (λ (d : Database). d.trees 0) now ∙ subst (λ s. first.0.trees (next_tree s) ≡ []) has made.empty in
    record {
      schema = ap (λ (d : Database). d.schema) now ∙ schema;
      pieces = subst (λ (rows : List Row). IsPermutation (map shown rows) []) (sym empty) (IsPermutation-refl []);
    }

module _ (old new : State) (has : old.now.schema ≡ no_schema) where
  pub settles : (r : Result ℕ Error) → LeavesCommitted new → old.in_transaction ≡ false → Executes create_text [] old new r → OnOk r (IsSettled [] new)
  settles (Err e) law mode h = tt
  settles (Ok count) law mode h =
      let w = runs_as create_text [] old new no_schema has CreateTable create_is.0 create_is.3 count h in
      committing.settles create_text [] no_schema create_is.3 CreateTable create_is.0 old new has [] (made old.step_limit (mode_of old) old.now has) count law mode w

  pub leaves : Survives old new (CommitsBy create_text [] old) → HasCleanDisk new → LeavesOr [] old new
  leaves s clean =
      committing.leaves create_text [] no_schema create_is.3 CreateTable create_is.0 old new has [] (made old.step_limit (mode_of old) old.now has) (λ e. cc) (λ name e. cc) s clean
