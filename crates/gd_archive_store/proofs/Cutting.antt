-- Why the queries of an archive are refused.
use Rattle.std.proofs.Common.{◌≡◌, ◌≢◌, ◌⊎◌, inl, inr, ℕ, pos, ◌<◌, ◌^◌, List, [], ◌∷◌, Any, Option, Result, Ok, Err, IfErr, length, codes, arith, sym, ap, ◌∙◌}
use Rattle.sqlite.specs.declared.types.Value.{Value}
use Rattle.sqlite.specs.declared.types.Value.TheVariants.{Int, Text as Words}
use Rattle.sqlite.specs.Order.{Row, column}
use Rattle.sqlite.specs.declared.error.Error.{Error}
use Rattle.sqlite.specs.declared.error.Error.TheVariants.{SqliteFailure}
use Rattle.sqlite.specs.declared.error.ErrorCode.TheVariants.{OutOfMemory}
use Rattle.sqlite.specs.Reading.{IsReadError}
use Rattle.sqlite.specs.State.{State, FailsToQuery}
use Rattle.sqlite.specs.Effect.{Database, RefusesToRead}
use Rattle.sqlite.specs.Table.{Table}
use Rattle.sqlite.specs.Command.TheVariants.{Select}
use Rattle.gd_archive_store.specs.Tables.{archive, version_2, HasArchive}
use Rattle.gd_archive_store.specs.Contents.{IsCutOff}
use Rattle.gd_archive_store.proofs.Failing.{cut_off}
use Rattle.gd_archive_store.proofs.Texts.{version_text, version_is, version_fits, version_query, find_text, find_is, find_plain, find_fits, find_query, all_text, all_is, all_fits, all_query}

-- a query of one table that sums nothing overflows nowhere
never : (rows : List Row) → ⊥ ⊎ Any (λ (r : Row). ⊥) rows → ⊥
never rows (inl h) = h
never rows (inr h) = h.4

version_stops : (limit : Option ℕ) (db : Database) (tables : List Table) (e : Error) → RefusesToRead limit (Select (record { lets = []; body = version_query }) (codes "version" ∷ [])) (record db { schema = record db.schema { tables = archive ∷ tables } }) [] e → IsCutOff e
version_stops limit db tables e (inl h) = absurd (let no = h.1 in cc)
version_stops limit db tables e (inr (inl h)) = absurd (never _ h.1)
version_stops limit db tables e (inr (inr h)) = inr (inr h.0)

find_stops : (limit : Option ℕ) (db : Database) (book : List ℕ) (cycle : ℕ) (e : Error)
    → RefusesToRead limit (Select (record { lets = []; body = find_query }) (codes "round" ∷ codes "body" ∷ codes "rule" ∷ [])) (record db { schema = version_2 }) (Words book ∷ Int (pos cycle) ∷ []) e → IsCutOff e
find_stops limit db book cycle e (inl h) = absurd (let no = h.1 in cc)
find_stops limit db book cycle e (inr (inl h)) = absurd (never _ h.1)
find_stops limit db book cycle e (inr (inr h)) = inr (inr h.0)

all_stops : (limit : Option ℕ) (db : Database) (e : Error)
    → RefusesToRead limit (Select (record { lets = []; body = all_query }) (codes "book" ∷ codes "cycle" ∷ codes "round" ∷ codes "body" ∷ codes "rule" ∷ [])) (record db { schema = version_2 }) [] e → IsCutOff e
all_stops limit db e (inl h) = absurd (let no = h.1 in cc)
all_stops limit db e (inr (inl h)) = absurd (never _ h.1)
all_stops limit db e (inr (inr h)) = inr (inr h.0)

pub versions_cut : (old new : State) (e : Error) → HasArchive old.now.schema → FailsToQuery version_text [] old new e → IsCutOff e
versions_cut old new e has =
    let schema = record old.now.schema { tables = archive ∷ has.0 } in
    let is : old.now.schema ≡ schema = ap (λ ts. record old.now.schema { tables = ts }) has.1 in
    let reads = version_is has.0 schema.indexes schema.views in
    cut_off version_text [] old schema is _ _ reads.0 reads.2 (version_fits has.0 schema.indexes schema.views) reads.1 (λ limit. version_stops limit old.now has.0) new e

pub find_cut : (old new : State) (book : List ℕ) (cycle : ℕ) (e : Error) → old.now.schema ≡ version_2 → FailsToQuery find_text (Words book ∷ Int (pos cycle) ∷ []) old new e → IsCutOff e
find_cut old new book cycle e has = cut_off find_text _ old version_2 has _ _ find_is.0 find_plain (find_fits book cycle) find_is.1 (λ limit. find_stops limit old.now book cycle) new e

pub all_cut : (old new : State) (e : Error) → old.now.schema ≡ version_2 → FailsToQuery all_text [] old new e → IsCutOff e
all_cut old new e has = cut_off all_text [] old version_2 has _ _ all_is.0 all_is.2 all_fits all_is.1 (λ limit. all_stops limit old.now) new e

no_room : (at : ℕ) (v : Value) (e : Error) → IsReadError at v e → (e ≢ SqliteFailure OutOfMemory → ⊥) → e ≡ SqliteFailure OutOfMemory
no_room at v e (inl h) only = absurd (only (λ k. let no = sym h ∙ k in cc))
no_room at v e (inr (inl h)) only = absurd (only (λ k. let no = sym h ∙ k in cc))
no_room at v e (inr (inr (inl h))) only = absurd (only (λ k. let no = sym h ∙ k in cc))
no_room at v e (inr (inr (inr (inl h)))) only = absurd (only (λ k. let no = sym h ∙ k in cc))
no_room at v e (inr (inr (inr (inr h)))) only = h

-- a number that a version may be is read, unless memory is wanting
pub number_cut : (row : Row) (r : Result ℕ Error) → (IfErr r (IsReadError 0 (column row 0))) → IfErr r (λ e. e ≢ SqliteFailure OutOfMemory → 0 < length row → ((m : ℕ) × (column row 0 ≡ Int (pos m)) × (m < 2 ^ 32)) → ⊥)
    → IfErr r (λ e. (n : ℕ) → n < 2 ^ 32 → row ≡ Int (pos n) ∷ [] → IsCutOff e)
number_cut row (Ok n) named kind = tt
number_cut row (Err e) named kind = λ n low is.
    let some : 0 < length row = omega (arith, ap length is) in
    inr (inl (no_room 0 (column row 0) e named (λ other. kind other some (n, ap (λ (r : Row). column r 0) is, low))))
