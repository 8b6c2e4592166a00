-- What a statement inside a transaction keeps.
use Rattle.std.proofs.Common.{All, map, take, length, get_or, suc, ◌+◌, ◌<◌, ◌++◌, arith, ◌≡◌, ◌⊎◌, inl, inr, ℕ, List, [], Ok, Err, Result, IfOk, IfErr, OnOk, OnErr, ℤ, pos, ◌∷◌, IsTrue, refl, sym, ap, subst, ◌∙◌}
use Rattle.sqlite.specs.Order.{Row, column}
use Rattle.sqlite.specs.Effect.{Database}
use Rattle.sqlite.specs.declared.error.Error.{Error}
use Rattle.sqlite.specs.State.{State, IsUnchanged, IsRolledBack, KeepsCommit, Executes, ExecutesInside, Shown, FailsToQuery, IsTooLate}
use Rattle.sqlite.specs.declared.types.Value.{Value}
use Rattle.sqlite.specs.declared.types.Value.TheVariants.{Int, Text as Words}
use Rattle.sqlite.specs.Cast.{cast}
use Rattle.sqlite.specs.Kind.TheVariants.{Integer}
use Rattle.sqlite.specs.Listing.{understood}
use Rattle.sqlite.proofs.Callers.{IsPlain}
use Rattle.sqlite.specs.Steps.{FailsToCommit}
use Rattle.gd_archive_store.specs.Contents.{IsSame}
use Rattle.gd_archive_store.proofs.Refusing.{query_refused}
use Rattle.gd_archive_store.proofs.Finding.{shown_same}
use Rattle.gd_archive_store.proofs.Inserting.{Enters, enters}
use Rattle.gd_archive_store.proofs.Texts.{insert_text}
use Rattle.gd_archive_store.specs.Tables.{no_schema, version_1, version_2}
use Rattle.gd_archive_store.specs.Contents.{rows_of, old_rows_of, shown}
use Rattle.gd_archive_store.specs.Migration.{IsMigrated, carried}
use Rattle.gd_archive_store.specs.Stages.{IsRefused, IsBuilt, IsOneMore, IsMore}
use Rattle.std.specs.List.Sorted.{IsPermutation}
use Rattle.std.proofs.lemmas.List.Sorted.{IsPermutation-refl, IsPermutation-trans, IsPermutation-map, IsPermutation-push_more, IsPermutation-sym, All-permutation, length_permutation}
use Rattle.std.proofs.lemmas.List.Elements.{All-push}
use Rattle.std.proofs.lemmas.List.{map-append}
use Rattle.std.proofs.Math.Seq.{take-suc}
use Rattle.gd_archive_store.proofs.Texts.{drop_posting_text, drop_archive_text, without_posting, without_archive}
use Rattle.gd_archive_store.proofs.Steps.{drops_posting, drops_archive}
use Rattle.gd_archive_store.proofs.Keys.{rows_more}

unchanged_keeps : (old new : State) → IsUnchanged old new → KeepsCommit old new
unchanged_keeps old new h = record { was_open = λ _. h.0.was_open; committed = λ _. h.0.committed_is }

rolled_keeps : (old new : State) → IsRolledBack old new → KeepsCommit old new
rolled_keeps old new h = record { was_open = h.was_open; committed = λ up. (h.undone up).1 }

pub inside_keeps : (sql : List ℕ) (params : Row) (old new : State) (r : Result ℕ Error) → ExecutesInside 0 sql params old new r → KeepsCommit old new
inside_keeps sql params old new (Ok n) h = record { was_open = λ _. h.1.was_open; committed = λ _. h.1.committed_is }
inside_keeps sql params old new (Err e) (inl (h, inl same)) = unchanged_keeps old new same
inside_keeps sql params old new (Err e) (inl (h, inr back)) = rolled_keeps old new back
inside_keeps sql params old new (Err e) (inr h) = unchanged_keeps old new h.2

pub inside_ran : (sql : List ℕ) (params : Row) (old new : State) (r : Result ℕ Error) → ExecutesInside 0 sql params old new r → IfOk r (λ n. Executes sql params old new (Ok n) × IsTrue new.in_transaction)
inside_ran sql params old new (Ok n) h = (h.0, h.1.mode)
inside_ran sql params old new (Err e) h = tt

pub keeps_then : (a b c : State) → KeepsCommit a b → KeepsCommit b c → KeepsCommit a c
keeps_then a b c p q = record { was_open = λ up. p.was_open (q.was_open up); committed = λ up. q.committed up ∙ p.committed (q.was_open up) }

pub keeps_same : (s : State) → KeepsCommit s s
keeps_same s = record { was_open = λ up. up; committed = λ up. refl }

-- a commit that fails leaves what was there before the transaction
pub commit_whole : (old begun last new : State) (e : Error) → begun.committed ≡ old.committed → begun.is_open ≡ old.is_open → KeepsCommit begun last → (IsTrue old.is_open → old.now ≡ old.committed) → IsTrue last.in_transaction
    → FailsToCommit last new e → IsSame old new
commit_whole old begun last new e committed is_open kept settled inside (inl h) up =
    let was_last = h.3.was_open up in
    (h.3.undone up).0 ∙ kept.committed was_last ∙ committed ∙ sym (settled (sym is_open ∙ kept.was_open was_last))
commit_whole old begun last new e committed is_open kept settled inside (inr h) up = absurd (let no = sym h.1 ∙ inside in cc)

pub on_err : {T E : Type 0} (r : Result T E) (X : Type 0) → X → OnErr r X
on_err (Ok x) X h = tt
on_err (Err e) X h = h

pub clears : (a b c : State) (m n : ℕ) → a.now.schema ≡ version_1 → Executes drop_posting_text [] a b (Ok m) → Executes drop_archive_text [] b c (Ok n) → c.now.schema ≡ no_schema
clears a b c m n has one two = (drops_archive b c n ((drops_posting a b m has one).schema ∙ without_posting) two).schema ∙ without_archive

refused_keeps : (old new : State) → IsRefused old new → KeepsCommit old new
refused_keeps old new (inl same) = unchanged_keeps old new same
refused_keeps old new (inr back) = rolled_keeps old new back

pub query_keeps : (rows : Type 0) (items : rows → List Row) (sql : List ℕ) (params : Row) (old new : State) (r : Result rows Error) → IsPlain (understood old.now.schema sql)
    → IfOk r (λ x. Shown sql params old new (items x)) → IfErr r (λ e. FailsToQuery sql params old new e ⊎ IsTooLate sql params old new e) → KeepsCommit old new
query_keeps rows items sql params old new (Ok x) plain h f = unchanged_keeps old new (shown_same sql params old new (items x) plain h)
query_keeps rows items sql params old new (Err e) plain h (inl f) = refused_keeps old new (query_refused old new sql params e f)
query_keeps rows items sql params old new (Err e) plain h (inr f) = unchanged_keeps old new f.5

one_more : (old new : Database) (book : List ℕ) (cycle : ℤ) (round body : Value) (rule : ℤ) → Enters old new book cycle round body rule → IsOneMore old new (Words book ∷ Int cycle ∷ round ∷ body ∷ Int rule ∷ [])
one_more old new book cycle round body rule e = record { schema = e.schema; rows = rows_more old new book cycle round body rule e; version = e.version; before = e.postings }

-- the row of version 1 that is entered, with its round as the column keeps it
pub inserts : (old new : State) (book : List ℕ) (cycle : ℕ) (round body : Value) (r : Result ℕ Error) → old.now.schema ≡ version_2
    → ExecutesInside 0 insert_text (Words book ∷ Int (pos cycle) ∷ round ∷ body ∷ Int (pos 1) ∷ []) old new r
    → OnOk r (IsOneMore old.now new.now (Words book ∷ Int (pos cycle) ∷ cast Integer round ∷ body ∷ Int (pos 1) ∷ []) × IsTrue new.in_transaction)
inserts old new book cycle round body (Err e) has h = tt
inserts old new book cycle round body (Ok n) has h =
    let ran = inside_ran insert_text _ old new (Ok n) h in
    (one_more old.now new.now book (pos cycle) (cast Integer round) body (pos 1) (enters old new book (pos cycle) round (cast Integer round) body (pos 1) (Ok n) refl has ran.0), ran.1)

pub carry_more : (f : Row → Row) (old mid new : Database) (rows : List Row) (i : ℕ) (row : Row) → IsMore old mid (map f (take i rows)) → IsOneMore mid new (f row) → i < length rows → row ≡ get_or rows i row
    → IsMore old new (map f (take (i + 1) rows))
carry_more f old mid new rows i row more one low is =
    let next : i + 1 ≡ suc i = omega arith in
    let split : take (i + 1) rows ≡ take i rows ++ row ∷ [] = ap (λ n. take n rows) next ∙ take-suc rows i row low ∙ ap (λ x. take i rows ++ x ∷ []) (sym is) in
    let mapped : map f (take (i + 1) rows) ≡ map f (take i rows) ++ f row ∷ [] = ap (map f) split ∙ map-append f (take i rows) (row ∷ []) in
    record {
      schema = one.schema;
      rows_are = subst (λ xs. IsPermutation xs (rows_of new)) (sym mapped) (IsPermutation-push_more (map f (take i rows)) (rows_of mid) (rows_of new) (f row) more.rows_are one.rows);
      version = one.version ∙ more.version;
      before = one.before ∙ more.before;
    }

-- what holds of the rows so far and of the next holds of one row more
pub all_more : (P : Row → Type 0) (rows : List Row) (i : ℕ) (row : Row) → All P (take i rows) → i < length rows → row ≡ get_or rows i row → P row → All P (take (i + 1) rows)
all_more P rows i row all low is p =
    let next : i + 1 ≡ suc i = omega arith in
    let split : take (i + 1) rows ≡ take i rows ++ row ∷ [] = ap (λ n. take n rows) next ∙ take-suc rows i row low ∙ ap (λ x. take i rows ++ x ∷ []) (sym is) in
    subst (All P) (sym split) (All-push P (take i rows) row all p)

-- what holds of the rows that were read holds of those that are there
pub all_held : (P : Row → Type 0) (old : Database) (rows : List Row) → IsPermutation (old_rows_of old) rows → All P rows → All P (old_rows_of old)
all_held P old rows shown all = All-permutation P rows (old_rows_of old) (IsPermutation-sym (old_rows_of old) rows shown) all

pub none_yet : (f : Row → Row) (old : Database) (rows : List Row) → IsBuilt old → IsMore old old (map f (take 0 rows))
none_yet f old rows built =
    record { schema = built.schema; rows_are = subst (λ xs. IsPermutation [] (map shown xs)) (sym built.postings) (IsPermutation-refl []); version = refl; before = refl }

pub migrates : (rewritten : Row → Value) (old built last : Database) (rows : List Row) (count : ℕ) → IsPermutation (old_rows_of old) rows → IsBuilt built → IsMore built last (map (carried rewritten) rows) → count ≡ length rows
    → IsMigrated rewritten old last count
migrates rewritten old built last rows count shown b more n = record {
  schema = more.schema;
  version = ap (map (λ (r : Row). column r 2 ∷ [])) more.version ∙ b.version;
  rows = IsPermutation-trans _ _ _ (IsPermutation-map (carried rewritten) (old_rows_of old) rows shown) more.rows_are;
  before = more.before ∙ b.before;
  counted = n ∙ length_permutation (old_rows_of old) rows shown;
}

pub migrated_at : (rewritten : Row → Value) (old last final committed : Database) (count : ℕ) → IsMigrated rewritten old last count → final ≡ last → committed ≡ last → IsMigrated rewritten old final count × (committed ≡ final)
migrated_at rewritten old last final committed count h e f = (subst (λ (d : Database). IsMigrated rewritten old d count) (sym e) h, f ∙ sym e)
