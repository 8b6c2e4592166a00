-- What INSERT does to the postings.
use Rattle.std.proofs.Common.{◌≡◌, ◌≢◌, ◌⊎◌, inl, inr, ℕ, ℤ, List, None, [], ◌∷◌, Ok, Err, Result, OnOk, Bool, true, false, cond, not, ◌&&◌, refl, ap, subst, ◌∙◌}
use Rattle.sqlite.specs.declared.types.Value.{Value}
use Rattle.sqlite.specs.declared.types.Value.TheVariants.{Null, Int, Text as Words}
use Rattle.sqlite.specs.Order.{Row}
use Rattle.sqlite.specs.Command.TheVariants.{Insert}
use Rattle.sqlite.specs.Source.TheVariants.{Values}
use Rattle.sqlite.specs.Kind.TheVariants.{Integer}
use Rattle.sqlite.specs.Cast.{cast}
use Rattle.sqlite.specs.Ops.{unary}
use Rattle.sqlite.specs.Table.{Table}
use Rattle.sqlite.specs.Edit.{Edit, edit_of, edited, next_rowid, is_taken, are_fresh, left_by}
use Rattle.sqlite.specs.Rowids.TheVariants.{Chosen}
use Rattle.sqlite.specs.Does.{Tally, Does}
use Rattle.sqlite.specs.Rows.{Written}
use Rattle.sqlite.specs.Tree.{Trees, put_row}
use Rattle.sqlite.specs.Effect.{Database}
use Rattle.sqlite.specs.declared.error.Error.{Error}
use Rattle.sqlite.specs.State.{State, mode_of, Executes}
use Rattle.sqlite.specs.Listing.{understood}
use Rattle.sqlite.proofs.Callers.{statement_of, runs_as, one_step}
use Rattle.gd_archive_store.specs.Tables.{posting2, version_2}
use Rattle.gd_archive_store.proofs.Texts.{insert_text, insert_is, insert_plain, terms}

-- a part that gave a value did not stop on the way
pub went : {B E R : Type 0} {b : B} {Stops : E → Type 0} → ((stop : E) × Stops stop × (Ok b ≡ Err stop)) ⊎ R → R
went (inl stopped) = absurd (let e = stopped.2 in cc)
went (inr on) = on

pub same_value : {B E : Type 0} {a b : B} → ◌≡◌ {A = Result B E} (Ok a) (Ok b) → a ≡ b
same_value e = cc

either : (b : Bool) (x : Value) → cond b x x ≡ x
either true x = refl
either false x = refl

pub cast_int : (n : ℤ) → cast Integer (Int n) ≡ Int n
unfolding unary
cast_int n = either _ (Int n)

pub cast_null : cast Integer Null ≡ Null
unfolding unary
cast_null = either _ Null

-- the row as it is stored
abbrev pub stored : ℤ → List ℕ → ℤ → Value → Value → ℤ → Row
stored id book cycle round body rule = Int id ∷ Words book ∷ Int cycle ∷ round ∷ body ∷ Int rule ∷ []

-- one row was entered
pub record Enters (old new : Database) (book : List ℕ) (cycle : ℤ) (round body : Value) (rule : ℤ) : Type 0 where
  pub schema : new.schema ≡ version_2
  pub id : ℤ
  pub rows : new.trees 3 ≡ put_row (stored id book cycle round body rule) (old.trees 3)
  pub free : is_taken (old.trees 3) (stored id book cycle round body rule) ≡ false
  pub version : new.trees 0 ≡ old.trees 0
  pub postings : new.trees 1 ≡ old.trees 1

abbrev table : Table
table = record posting2 { tree = 3 }

abbrev source : List ℕ → ℤ → Value → Value → ℤ → Row
source book cycle round body rule = Null ∷ Words book ∷ Int cycle ∷ round ∷ body ∷ Int rule ∷ []

abbrev insertion : Trees → List Row → Edit
insertion db given = edit_of db table [] Chosen 0 given

news_are : (db : Trees) (book : List ℕ) (cycle : ℤ) (given round body : Value) (rule : ℤ) → cast Integer given ≡ round
    → (insertion db (source book cycle given body rule ∷ [])).news ≡ stored (next_rowid (db 3)) book cycle round body rule ∷ []
news_are db book cycle given round body rule casts = rw (cast_null, cast_int cycle, casts, cast_int rule) refl

none_is_0 : ◌≢◌ {A = ℕ} 0 3
none_is_0 e = cc

none_is_1 : ◌≢◌ {A = ℕ} 1 3
none_is_1 e = cc

not_taken : (b : Bool) → (not b && true) ≡ true → b ≡ false
not_taken true h = absurd cc
not_taken false h = refl

-- the rows that a step leaves, where its sources are the one row
put_by : (db : Trees) (given : List Row) (new : Row) → (insertion db given).news ≡ new ∷ [] → edited db (insertion db given) ≡ put_row new (db 3)
put_by db given new is = rw is refl

free_by : (db : Trees) (given : List Row) (new : Row) → (insertion db given).news ≡ new ∷ [] → are_fresh (left_by db (insertion db given)) (insertion db given).news ≡ true → is_taken (db 3) new ≡ false
free_by db given new is fresh = not_taken _ (rw is at fresh)

-- a statement outside a transaction is committed
pub commits : (old new : State) (book : List ℕ) (cycle : ℤ) (given body : Value) (rule : ℤ) (count : ℕ) → old.now.schema ≡ version_2 → old.in_transaction ≡ false
    → Executes insert_text (Words book ∷ Int cycle ∷ given ∷ body ∷ Int rule ∷ []) old new (Ok count) → new.committed ≡ new.now
commits old new book cycle given body rule count has mode h =
    let w = runs_as insert_text (Words book ∷ Int cycle ∷ given ∷ body ∷ Int rule ∷ []) old new version_2 has (Insert 2 (Values terms 6)) insert_is insert_plain count h in
    w.shown.committed_is ∙ rw mode refl

-- the row is stored with its round as the column keeps it
pub enters : (old new : State) (book : List ℕ) (cycle : ℤ) (given round body : Value) (rule : ℤ) (r : Result ℕ Error) → cast Integer given ≡ round → old.now.schema ≡ version_2
    → Executes insert_text (Words book ∷ Int cycle ∷ given ∷ body ∷ Int rule ∷ []) old new r
    → OnOk r (Enters old.now new.now book cycle round body rule)
enters old new book cycle given round body rule (Err e) casts has h = tt
enters old new book cycle given round body rule (Ok count) casts has h =
    let params = Words book ∷ Int cycle ∷ given ∷ body ∷ Int rule ∷ [] in
    let db = old.now.trees in
    let command = Insert 2 (Values terms 6) in
    let w = runs_as insert_text params old new version_2 has command insert_is insert_plain count h in
    let text = statement_of insert_text (understood version_2 insert_text) in
    let done = went (subst (λ s. Does old.step_limit (mode_of old) params (record old.now { schema = s }) text None command (Ok (w.tally, new.now))) has w.changed) in
    let now = ap (λ (p : Tally × Database). p.1) (same_value (went (went done.2).2).2) in
    let sources = went done.1 in
    let written = went (went sources.2).2 in
    let counted = went written.2 in
    let trees : done.0.trees ≡ written.0 = ap (λ (it : Written). it.trees) (same_value counted.2) ∙ same_value counted.1 in
    let applied = one_step version_2 _ db written.0 (insertion db sources.0) refl written.1 in
    let is = ap (λ all. (insertion db all).news) sources.1.1 ∙ news_are db book cycle given round body rule casts in
    let all = ap (λ (d : Database). d.trees) now ∙ trees in
    record {
      schema = ap (λ (d : Database). d.schema) now;
      id = next_rowid (db 3);
      rows = ap (λ (t : Trees). t 3) all ∙ applied.rows ∙ put_by db sources.0 _ is;
      free = free_by db sources.0 _ is applied.fresh;
      version = ap (λ (t : Trees). t 0) all ∙ applied.tables.0 none_is_0;
      postings = ap (λ (t : Trees). t 1) all ∙ applied.tables.1.0 none_is_1;
    }
