-- What a row that is read says of the table.
use Rattle.std.proofs.Common.{inl, inr, pos, ◌≤◌, ◌<◌, ◌^◌, Option, Some, None, OnSome, Result, Ok, Err, IfErr, IsErrAnd, length, get_or, arith, ◌≡◌, ℕ, ℤ, List, [], ◌∷◌, map, refl, sym, ap, subst, ◌∙◌}
use Rattle.std.specs.List.Sorted.{IsPermutation}
use Rattle.std.proofs.lemmas.List.Sorted.{IsPermutation-sym, length_permutation}
use Rattle.sqlite.specs.declared.types.Value.TheVariants.{Int}
use Rattle.sqlite.specs.Order.{Row, column}
use Rattle.sqlite.specs.Effect.{Database}
use Rattle.sqlite.proofs.Callers.{one_permutation}
use Rattle.sqlite.specs.Schema.{Schema}
use Rattle.gd_archive_store.specs.Tables.{version_2, HasArchive}
use Rattle.gd_archive_store.specs.Contents.{versions_of, HasVersion, SaysVersion, IsKnown}

single : (rows : List Row) (row : Row) (n : ℤ) → map (λ r. column r 2 ∷ []) rows ≡ row ∷ [] → column row 0 ≡ Int n → map (λ r. column r 2 ∷ []) rows ≡ (Int n ∷ []) ∷ []
single [] row n h e = absurd cc
single (r ∷ []) row n h e = let same : column r 2 ∷ [] ≡ row = cc in ap (λ v. (v ∷ []) ∷ []) (ap (λ (x : Row). column x 0) same ∙ e)
single (r ∷ s ∷ rows) row n h e = absurd cc

pub version_read : (db : Database) (rows : List Row) (row : Row) (n : ℕ) → IsPermutation (versions_of db) rows → rows ≡ row ∷ [] → column row 0 ≡ Int (pos n) → HasVersion db n
version_read db rows row n h is e =
    let back : IsPermutation (row ∷ []) (map (λ r. column r 2 ∷ []) (db.trees 0)) = IsPermutation-sym _ _ (subst (IsPermutation (versions_of db)) is h) in
    single (db.trees 0) row (pos n) (one_permutation row _ back) e

alone : (items : List Row) (row : Row) → 1 ≤ length items → length items < 2 → row ≡ get_or items 0 row → items ≡ row ∷ []
alone [] row some low is = absurd (omega arith)
alone (r ∷ []) row some low is = ap (λ x. x ∷ []) (sym is)
alone (r ∷ s ∷ items) row some low is = absurd (omega arith)

pub version_row : (db : Database) (items seen : List Row) (row : Row) (n : ℕ) → IsPermutation (versions_of db) items → seen ≡ items → 1 ≤ length seen → length seen < 2 → row ≡ get_or seen 0 row → column row 0 ≡ Int (pos n) → HasVersion db n
version_row db items seen row n h same some low is e = version_read db items row n h (sym same ∙ alone seen row some low is) e

pub none_there : {X : Type 0} (xs ys : List X) → IsPermutation xs ys → ys ≡ [] → xs ≡ []
none_there [] ys h e = refl
none_there (x ∷ xs) ys h e = absurd (omega (arith, length_permutation (x ∷ xs) ys h, ap length e))

pub some_there : {X : Type 0} (xs ys : List X) → IsPermutation xs ys → (ys ≡ [] → ⊥) → xs ≡ [] → ⊥
some_there xs [] h some e = some refl
some_there xs (y ∷ ys) h some e = omega (arith, length_permutation xs (y ∷ ys) h, ap length e)

nothing : (rows : List Row) → map (λ r. column r 2 ∷ []) rows ≡ [] → rows ≡ []
nothing [] h = refl
nothing (r ∷ rows) h = absurd cc

-- where no version is read, the version's table is empty
pub unread : (db : Database) (rows : List Row) → IsPermutation (versions_of db) rows → length rows ≡ 0 → db.trees 0 ≡ []
unread db [] h none = nothing (db.trees 0) (none_there _ [] h refl)
unread db (r ∷ rows) h none = absurd (omega (arith, none))

pub archive_first : (s : Schema) → s ≡ version_2 → HasArchive s
archive_first s is = (_, ap (λ (t : Schema). t.tables) is)

-- the rows that are read where the version is known
pub one_row : (db : Database) (rows : List Row) (n : ℕ) → IsPermutation (versions_of db) rows → HasVersion db n → rows ≡ (Int (pos n) ∷ []) ∷ []
one_row db rows n shown has = one_permutation (Int (pos n) ∷ []) rows (subst (λ xs. IsPermutation xs rows) has shown)

pub on_some : {X : Type 0} {U : Type 0} (o : Option X) → U → OnSome o U
on_some None u = tt
on_some (Some x) u = u

-- a file that is known says a version
pub known_version : (db : Database) → IsKnown db → (n : ℕ) × (n < 2 ^ 32) × SaysVersion db n
known_version db (inl says) = (1, omega arith, says)
known_version db (inr is) = (2, omega arith, record { table = archive_first db.schema is.schema; version = is.version })

-- what is known of the error that a call ends with
pub err_is : {T E : Type 0} (P : E → Type 0) (r : Result T E) (e : E) → IsErrAnd r (λ f. f ≡ e) → P e → IfErr r P
err_is P (Ok x) e h p = tt
err_is P (Err f) e h p = subst P (sym h) p
