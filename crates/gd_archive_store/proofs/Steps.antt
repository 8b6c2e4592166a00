-- What the statements of `make` and `migrate` do.
use Rattle.std.proofs.Common.{◌≡◌, ◌≢◌, ℕ, pos, List, None, [], ◌∷◌, map, Ok, false, if◌then◌else◌, refl, sym, ap, subst, ◌∙◌}
use Rattle.std.specs.List.Sorted.{IsPermutation}
use Rattle.std.proofs.lemmas.List.Sorted.{IsPermutation-map}
use Rattle.sqlite.specs.declared.types.Value.TheVariants.{Null, Int}
use Rattle.sqlite.specs.Order.{Row, column}
use Rattle.sqlite.specs.Command.TheVariants.{Insert, CreateTable, DropTable}
use Rattle.sqlite.specs.Source.TheVariants.{Values}
use Rattle.sqlite.specs.Compile.{table_defined_by}
use Rattle.sqlite.specs.Table.{Table}
use Rattle.sqlite.specs.Schema.{Schema}
use Rattle.sqlite.specs.Change.{created, next_tree, without_table, KeepsRows}
use Rattle.sqlite.specs.Edit.{Edit, edit_of, edited}
use Rattle.sqlite.specs.Rowids.TheVariants.{Chosen}
use Rattle.sqlite.specs.Does.{Tally, Does, lacks_sequence}
use Rattle.sqlite.specs.Rows.{Written}
use Rattle.sqlite.specs.Tree.{Trees}
use Rattle.sqlite.specs.Effect.{Database}
use Rattle.sqlite.specs.State.{State, Shown, IsUnchanged, Writes, mode_of, Executes}
use Rattle.sqlite.specs.Listing.{understood}
use Rattle.sqlite.proofs.Callers.{IsPlain, command_of, statement_of, runs_as, reads_as, one_step}
use Rattle.gd_archive_store.specs.Tables.{archive, only_archive, version_1, version_2}
use Rattle.gd_archive_store.specs.Contents.{HasVersion, shown_old, old_rows_of}
use Rattle.gd_archive_store.proofs.Inserting.{went, same_value, cast_int, cast_null}
use Rattle.std.specs.List.{flat_map, list_all}
use Rattle.sqlite.specs.Term.{holds}
use Rattle.sqlite.specs.Query.{IsAnswer, output, Output}
use Rattle.sqlite.specs.Program.{overlay}
use Rattle.gd_archive_store.proofs.Finding.{shown_same}
use Rattle.gd_archive_store.proofs.Texts.{drop_posting_text, drop_posting_is, drop_archive_text, drop_archive_is, enter_version_text, enter_version_is, version_terms, old_text, old_query, old_is}

-- what a CREATE TABLE leaves
pub record Creates (before : Schema) (table : Table) (old new : Database) : Type 0 where
  pub schema : new.schema ≡ created before table
  pub empty : new.trees (next_tree before) ≡ []
  pub others : KeepsRows before.tables old.trees new.trees

pub creates : (text : List ℕ) (before : Schema) (table : Table) → command_of (understood before text) ≡ CreateTable → statement_of text (understood before text) ≡ text → table_defined_by text ≡ Ok table
    → IsPlain (understood before text) → lacks_sequence (created before table) ≡ false → (old new : State) (count : ℕ) → old.now.schema ≡ before → Executes text [] old new (Ok count)
    → Creates before table old.now new.now
creates text before table is whole defined plain counts old new count has h =
    let w = subst (λ t. Writes old new None CreateTable t [] count) whole (runs_as text [] old new before has CreateTable is plain count h) in
    let all = went w.changed in
    let first = went all.1 in
    let made = first.1 in
    let both : Ok made.table ≡ Ok table = sym made.defined ∙ defined in
    let same : made.table ≡ table = cc in
    let schema : first.0.schema ≡ created before table = made.is ∙ ap (λ s. created s made.table) has ∙ ap (created before) same in
    let plain : lacks_sequence first.0.schema ≡ false = ap lacks_sequence schema ∙ counts in
    let now : new.now ≡ first.0 = ap (λ (p : Tally × Database). p.1) (same_value all.2) ∙ same_value (rw plain at first.2) in
    record {
      schema = ap (λ (d : Database). d.schema) now ∙ schema;
      empty = ap (λ (d : Database). d.trees (next_tree before)) now ∙ subst (λ s. first.0.trees (next_tree s) ≡ []) has made.empty;
      others = subst (λ (d : Database). KeepsRows before.tables old.now.trees d.trees) (sym now) (subst (λ (s : Schema). KeepsRows s.tables old.now.trees first.0.trees) has made.others);
    }

-- what a DROP TABLE leaves
pub record DropsOne (before : Schema) (tree : ℕ) (old new : Database) : Type 0 where
  pub schema : new.schema ≡ without_table before tree
  pub others : KeepsRows (without_table before tree).tables old.trees new.trees

left : (before : Schema) (tree : ℕ) (first second third : Trees) (after new : Database) → second ≡ first → third ≡ second → new ≡ after
    → (after.schema ≡ without_table before tree) × KeepsRows (without_table before tree).tables third after.trees → (new.schema ≡ without_table before tree) × KeepsRows (without_table before tree).tables first new.trees
left before tree first second third after new a b e h =
    let moved = subst (λ (t : Trees). KeepsRows (without_table before tree).tables t after.trees) (b ∙ a) h.1 in
    (ap (λ (d : Database). d.schema) e ∙ h.0, subst (λ (d : Database). KeepsRows (without_table before tree).tables first d.trees) (sym e) moved)

pub drops_posting : (old new : State) (count : ℕ) → old.now.schema ≡ version_1 → Executes drop_posting_text [] old new (Ok count) → DropsOne version_1 1 old.now new.now
drops_posting old new count has h =
    let w = runs_as drop_posting_text [] old new version_1 has (DropTable 1) drop_posting_is.0 drop_posting_is.1 count h in
    let text = statement_of drop_posting_text (understood version_1 drop_posting_text) in
    let all = went (subst (λ s. Does old.step_limit (mode_of old) [] (record old.now { schema = s }) text None (DropTable 1) (Ok (w.tally, new.now))) has w.changed) in
    let counted = went all.2 in
    let tested = went counted.2 in
    let done = went tested.2 in
    let now : new.now ≡ done.0 = ap (λ (p : Tally × Database). p.1) (same_value done.2) in
    let it = left version_1 1 old.now.trees all.0 counted.0 done.0 new.now (same_value all.1) (same_value counted.1) now done.1 in
    record { schema = it.0; others = it.1 }

pub drops_archive : (old new : State) (count : ℕ) → old.now.schema ≡ only_archive → Executes drop_archive_text [] old new (Ok count) → DropsOne only_archive 0 old.now new.now
drops_archive old new count has h =
    let w = runs_as drop_archive_text [] old new only_archive has (DropTable 0) drop_archive_is.0 drop_archive_is.1 count h in
    let text = statement_of drop_archive_text (understood only_archive drop_archive_text) in
    let all = went (subst (λ s. Does old.step_limit (mode_of old) [] (record old.now { schema = s }) text None (DropTable 0) (Ok (w.tally, new.now))) has w.changed) in
    let counted = went all.2 in
    let tested = went counted.2 in
    let done = went tested.2 in
    let now : new.now ≡ done.0 = ap (λ (p : Tally × Database). p.1) (same_value done.2) in
    let it = left only_archive 0 old.now.trees all.0 counted.0 done.0 new.now (same_value all.1) (same_value counted.1) now done.1 in
    record { schema = it.0; others = it.1 }

-- the version's row, where the table was empty
pub record EntersVersion (old new : Database) : Type 0 where
  pub schema : new.schema ≡ version_2
  pub version : HasVersion new 2
  pub before : new.trees 1 ≡ old.trees 1
  pub postings : new.trees 3 ≡ old.trees 3

none_is_1 : ◌≢◌ {A = ℕ} 1 0
none_is_1 e = cc

none_is_3 : ◌≢◌ {A = ℕ} 3 0
none_is_3 e = cc

abbrev insertion : Trees → List Row → Edit
insertion db given = edit_of db archive [] Chosen 0 given

put_version : (db : Trees) (given : List Row) → db 0 ≡ [] → given ≡ (Int (pos 1) ∷ Null ∷ Int (pos 2) ∷ []) ∷ [] → edited db (insertion db given) ≡ (Int (pos 1) ∷ Null ∷ Int (pos 2) ∷ []) ∷ []
put_version db given none is = rw (is, none, cast_null, cast_int (pos 1), cast_int (pos 2)) refl

pub enters_version : (old new : State) (count : ℕ) → old.now.schema ≡ version_2 → old.now.trees 0 ≡ [] → Executes enter_version_text [] old new (Ok count) → EntersVersion old.now new.now
enters_version old new count has none h =
    let db = old.now.trees in
    let command = Insert 0 (Values version_terms 3) in
    let w = runs_as enter_version_text [] old new version_2 has command enter_version_is.0 enter_version_is.1 count h in
    let text = statement_of enter_version_text (understood version_2 enter_version_text) in
    let done = went (subst (λ s. Does old.step_limit (mode_of old) [] (record old.now { schema = s }) text None command (Ok (w.tally, new.now))) has w.changed) in
    let now = ap (λ (p : Tally × Database). p.1) (same_value (went (went done.2).2).2) in
    let given = went done.1 in
    let written = went (went given.2).2 in
    let counted = went written.2 in
    let trees : done.0.trees ≡ written.0 = ap (λ (it : Written). it.trees) (same_value counted.2) ∙ same_value counted.1 in
    let applied = one_step version_2 _ db written.0 (insertion db given.0) refl written.1 in
    let all = ap (λ (d : Database). d.trees) now ∙ trees in
    let rows = ap (λ (t : Trees). t 0) all ∙ applied.rows ∙ put_version db given.0 none given.1.1 in
    record {
      schema = ap (λ (d : Database). d.schema) now;
      version = ap (map (λ (r : Row). column r 2 ∷ [])) rows;
      before = ap (λ (t : Trees). t 1) all ∙ applied.tables.1.0 none_is_1;
      postings = ap (λ (t : Trees). t 3) all ∙ applied.tables.1.1.0 none_is_3;
    }

all_pass : (params : Row) (rows : List Row) → flat_map (λ r. if list_all (holds (params ∷ r ∷ [])) old_query.filter then ((params ∷ r ∷ []) ∷ []) else []) rows ≡ map (λ r. params ∷ r ∷ []) rows
all_pass params [] = refl
all_pass params (r ∷ rows) = ap (λ xs. (params ∷ r ∷ []) ∷ xs) (all_pass params rows)

fused : (rows : List Row) → map (λ (o : Output). o.1) (map (output old_query) (map (λ r. [] ∷ r ∷ []) rows)) ≡ map shown_old rows
fused [] = refl
fused (r ∷ rows) = ap (λ xs. shown_old r ∷ xs) (fused rows)

-- the SELECT shows each row of version 1, in order of book and cycle
pub shows_all : (old new : State) (rows : List Row) → old.now.schema ≡ version_1 → Shown old_text [] old new rows
    → IsPermutation (old_rows_of old.now) rows × IsUnchanged old new
shows_all old new rows has h =
    let got = (reads_as old_text [] old new version_1 has _ old_is.0 old_is.2 old_is.1 rows h).answer in
    let a : IsAnswer old_query (overlay old.now.trees []) [] rows = got Null in
    let all = old.now.trees 1 in
    let staged : a.staged ≡ map (λ r. [] ∷ r ∷ []) all = a.grouped ∙ all_pass [] all in
    let kept : a.kept ≡ map (output old_query) (map (λ r. [] ∷ r ∷ []) all) = a.distinct ∙ ap (map (output old_query)) staged in
    let texts = ap (map (λ (o : Output). o.1)) kept ∙ fused all in
    let same = IsPermutation-map (λ (o : Output). o.1) a.kept a.ordered a.same in (
      subst (IsPermutation (old_rows_of old.now)) (sym a.shown) (subst (λ xs. IsPermutation xs (map (λ (o : Output). o.1) a.ordered)) texts same),
      shown_same old_text [] old new rows (subst (λ s. IsPlain (understood s old_text)) (sym has) old_is.2) h,
    )
