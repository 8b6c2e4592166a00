-- What INSERT does to the pieces.
use Rattle.std.proofs.Common.{◌≡◌, ◌⊎◌, inl, inr, ℕ, ℤ, pos, ◌+◌, List, None, [], ◌∷◌, ◌++◌, length, map, Ok, Err, Result, Option, OnOk, Bool, true, false, cond, not, ◌&&◌, refl, sym, ap, subst, ◌∙◌}
use Rattle.std.specs.List.Sorted.{IsPermutation}
use Rattle.std.proofs.lemmas.List.Sorted.{IsPermutation-map}
use Rattle.sqlite.specs.declared.types.Value.{Value}
use Rattle.sqlite.specs.declared.types.Value.TheVariants.{Null, Int, Blob}
use Rattle.sqlite.specs.Order.{Row}
use Rattle.sqlite.specs.Command.TheVariants.{Insert}
use Rattle.sqlite.specs.Source.TheVariants.{Values}
use Rattle.sqlite.specs.Kind.TheVariants.{Integer}
use Rattle.sqlite.specs.Cast.{cast}
use Rattle.sqlite.specs.Ops.{unary}
use Rattle.sqlite.specs.Edit.{Edit, edit_of, edited, is_taken, are_fresh, left_by}
use Rattle.sqlite.specs.Rowids.TheVariants.{Chosen}
use Rattle.sqlite.specs.Does.{Tally, Does}
use Rattle.sqlite.specs.Rows.{Written}
use Rattle.sqlite.specs.Tree.{Trees, put_row}
use Rattle.sqlite.specs.Effect.{Database}
use Rattle.sqlite.specs.declared.error.Error.{Error}
use Rattle.sqlite.specs.declared.run.Mode.{Mode}
use Rattle.sqlite.specs.State.{State, HasCleanDisk, Survives, mode_of, Executes, CommitsBy}
use Rattle.sqlite.specs.Listing.{understood}
use Rattle.sqlite.proofs.Callers.{statement_of, runs_as, one_step}
use Rattle.gd_journal_store.specs.Table.{piece, journal}
use Rattle.gd_journal_store.specs.Pieces.{Piece, shown, numbered, Keeps, IsSettled, LeavesOr}
use Rattle.gd_journal_store.proofs.Committing as committing
use Rattle.gd_journal_store.proofs.Committing.{LeavesCommitted}
use Rattle.gd_journal_store.proofs.Texts.{insert_text, insert_is, insert_plain, terms}
use Rattle.gd_journal_store.proofs.Rows.{put_permutes}
use Rattle.gd_journal_store.proofs.Numbers.{one_more}

-- a part that gave a value did not stop on the way
pub went : {B E R : Type 0} {b : B} {Stops : E → Type 0} → ((stop : E) × Stops stop × (Ok b ≡ Err stop)) ⊎ R → R
went (inl stopped) = absurd (let e = stopped.2 in cc)
went (inr on) = on

pub same_value : {B E : Type 0} {a b : B} → ◌≡◌ {A = Result B E} (Ok a) (Ok b) → a ≡ b
same_value e = cc

either : (b : Bool) (x : Value) → cond b x x ≡ x
either true x = refl
either false x = refl

cast_int : (n : ℤ) → cast Integer (Int n) ≡ Int n
unfolding unary
cast_int n = either _ (Int n)

cast_null : cast Integer Null ≡ Null
unfolding unary
cast_null = either _ Null

-- the row as it is stored
abbrev stored : ℕ → Piece → Row
stored n p = Int (pos n) ∷ Null ∷ Blob p.0 ∷ Blob p.1 ∷ []

-- one row was entered
pub record Enters (old new : Database) (n : ℕ) (p : Piece) : Type 0 where
  pub schema : new.schema ≡ journal
  pub rows : new.trees 0 ≡ put_row (stored n p) (old.trees 0)
  pub free : is_taken (old.trees 0) (stored n p) ≡ false

abbrev insertion : Trees → List Row → Edit
insertion db given = edit_of db piece [] Chosen 0 given

news_are : (db : Trees) (n : ℕ) (p : Piece) → (insertion db (stored n p ∷ [])).news ≡ stored n p ∷ []
news_are db n p = rw (cast_int (pos n), cast_null) refl

not_taken : (b : Bool) → (not b && true) ≡ true → b ≡ false
not_taken true h = absurd cc
not_taken false h = refl

put_by : (db : Trees) (given : List Row) (new : Row) → (insertion db given).news ≡ new ∷ [] → edited db (insertion db given) ≡ put_row new (db 0)
put_by db given new is = rw is refl

free_by : (db : Trees) (given : List Row) (new : Row) → (insertion db given).news ≡ new ∷ [] → are_fresh (left_by db (insertion db given)) (insertion db given).news ≡ true → is_taken (db 0) new ≡ false
free_by db given new is fresh = not_taken _ (rw is at fresh)

abbrev pub params_of : ℕ → Piece → Row
params_of n p = Int (pos n) ∷ Blob p.0 ∷ Blob p.1 ∷ []

abbrev insert_statement : List ℕ
insert_statement = statement_of insert_text (understood journal insert_text)

pub made : (step : Option ℕ) (mode : Mode) (old after : Database) (tally : Tally) (n : ℕ) (p : Piece) → old.schema ≡ journal
    → Does step mode (params_of n p) old insert_statement None (Insert 0 (Values terms 4)) (Ok (tally, after)) → Enters old after n p
made step mode old after tally n p has changed =
    let db = old.trees in
    let command = Insert 0 (Values terms 4) in
    let done = went (subst (λ s. Does step mode (params_of n p) (record old { schema = s }) insert_statement None command (Ok (tally, after))) has changed) in
    let now = ap (λ (q : Tally × Database). q.1) (same_value (went (went done.2).2).2) in
    let sources = went done.1 in
    let written = went (went sources.2).2 in
    let counted = went written.2 in
    let trees : done.0.trees ≡ written.0 = ap (λ (it : Written). it.trees) (same_value counted.2) ∙ same_value counted.1 in
    let applied = one_step journal _ db written.0 (insertion db sources.0) refl written.1 in
    let is = ap (λ all. (insertion db all).news) sources.1.1 ∙ news_are db n p in
    let all = ap (λ (d : Database). d.trees) now ∙ trees in
    record {
      schema = ap (λ (d : Database). d.schema) now;
      rows = ap (λ (t : Trees). t 0) all ∙ applied.rows ∙ put_by db sources.0 _ is;
      free = free_by db sources.0 _ is applied.fresh;
    }

-- and so the pieces are one more
pub has_more : (old new : Database) (ps : List Piece) (p : Piece) (n : ℕ) → n ≡ length ps + 1 → Keeps ps old → Enters old new n p → Keeps (ps ++ p ∷ []) new
has_more old new ps p n is had e = record {
  schema = e.schema;
  pieces =
      let put = IsPermutation-map shown _ _ (put_permutes (stored n p) (old.trees 0) e.free) in
      let more = one_more ps p n (map shown (old.trees 0)) _ is had.pieces put in
      subst (λ (rows : List Row). IsPermutation (map shown rows) (numbered 1 (ps ++ p ∷ []))) (sym e.rows) more;
}

module _ (old new : State) (n : ℕ) (p : Piece) (ps : List Piece) (is : n ≡ length ps + 1) (had : IsSettled ps old) where
  more : (tally : Tally) (after : Database) → Does old.step_limit (mode_of old) (params_of n p) old.now insert_statement None (Insert 0 (Values terms 4)) (Ok (tally, after)) → Keeps (ps ++ p ∷ []) after
  more tally after h = has_more old.now after ps p n is had.now (made old.step_limit (mode_of old) old.now after tally n p had.now.schema h)

  pub settles : (r : Result ℕ Error) → LeavesCommitted new → Executes insert_text (params_of n p) old new r → OnOk r (IsSettled (ps ++ p ∷ []) new)
  settles (Err e) law h = tt
  settles (Ok count) law h =
      let w = runs_as insert_text (params_of n p) old new journal had.now.schema (Insert 0 (Values terms 4)) insert_is insert_plain count h in
      committing.settles insert_text (params_of n p) journal insert_plain (Insert 0 (Values terms 4)) insert_is old new had.now.schema (ps ++ p ∷ []) more count law had.mode w

  pub leaves : Survives old new (CommitsBy insert_text (params_of n p) old) → HasCleanDisk new → LeavesOr (ps ++ p ∷ []) old new
  leaves s clean =
      committing.leaves insert_text (params_of n p) journal insert_plain (Insert 0 (Values terms 4)) insert_is old new had.now.schema (ps ++ p ∷ []) more (λ e. cc) (λ name e. cc) s clean
