-- Which rows are of a book and cycle.
use Rattle.std.proofs.Common.{Result, Ok, Err, OnOk, ◌≡◌, ℕ, ℤ, pos, List, [], ◌∷◌, Bool, true, false, ◌&&◌, filter, map, refl, sym, ap, subst, ◌∙◌}
use Rattle.std.specs.Ordering.{ordering_reverse}
use Rattle.std.specs.declared.cmp.Ordering.{Ordering}
use Rattle.std.specs.declared.cmp.Ordering.TheVariants.{Less, Equal, Greater}
use Rattle.std.specs.FinMap.{slice_cmp-IsAntisymmetric, nat_cmp-IsAntisymmetric, int_cmp-IsAntisymmetric}
use Rattle.sqlite_value.specs.Order.{value_cmp}
use Rattle.sqlite_value.proofs.OrderLemmas.{value_cmp_total, value_cmp-Int, value_cmp-Text}
use Rattle.sqlite.specs.Collation.TheVariants.{Binary}
use Rattle.sqlite.specs.declared.types.Value.{Value}
use Rattle.sqlite.specs.declared.types.Value.TheVariants.{Int, Text as Words, Blob as Bytes}
use Rattle.sqlite.specs.Order.{Row}
use Rattle.sqlite.specs.Effect.{Database}
use Rattle.sqlite.specs.Ops.{binary}
use Rattle.sqlite_schema.specs.Rules.{equal}
use Rattle.gd_archive_store.specs.Contents.{is_of, kept_in, kept_at, shown, rows_of, entry, IsEntered}
use Rattle.gd_archive_store.specs.Tables.{version_2}
use Rattle.sqlite.specs.declared.error.Error.{Error}
use Rattle.gd_archive_store.proofs.Rows.{put_skips, put_alone, put_permutes}
use Rattle.gd_archive_store.proofs.Inserting.{Enters, stored, enters, commits, cast_int}
use Rattle.gd_archive_store.proofs.Texts.{insert_text}
use Rattle.sqlite.specs.State.{State, Executes}
use Rattle.std.specs.List.Sorted.{IsPermutation}
use Rattle.std.proofs.lemmas.List.Sorted.{IsPermutation-map}

self_reverse : (o : Ordering) → o ≡ ordering_reverse o → o ≡ Equal
self_reverse Less h = cc
self_reverse Equal h = refl
self_reverse Greater h = cc

tied : (v : Value) → value_cmp v v ≡ Equal
tied v = self_reverse (value_cmp v v) (value_cmp_total.antisymm v v)

text_holds : (b : List ℕ) → equal Binary (Words b) (Words b) ≡ true
unfolding binary
text_holds b = rw (tied (Words b)) refl

int_holds : (n : ℤ) → equal Binary (Int n) (Int n) ≡ true
unfolding binary
int_holds n = rw (tied (Int n)) refl

text_same : (a b : List ℕ) → equal Binary (Words a) (Words b) ≡ true → a ≡ b
unfolding binary
text_same a b h = slice_cmp-IsAntisymmetric nat_cmp-IsAntisymmetric a b (sym (value_cmp-Text a b) ∙ at (value_cmp (Words a) (Words b)) refl)
  where
    at : (o : Ordering) → value_cmp (Words a) (Words b) ≡ o → value_cmp (Words a) (Words b) ≡ Equal
    at Less e = absurd (let g = rw e at h in cc)
    at Equal e = e
    at Greater e = absurd (let g = rw e at h in cc)

int_same : (a b : ℤ) → equal Binary (Int a) (Int b) ≡ true → a ≡ b
unfolding binary
int_same a b h = int_cmp-IsAntisymmetric a b (sym (value_cmp-Int a b) ∙ at (value_cmp (Int a) (Int b)) refl)
  where
    at : (o : Ordering) → value_cmp (Int a) (Int b) ≡ o → value_cmp (Int a) (Int b) ≡ Equal
    at Less e = absurd (let g = rw e at h in cc)
    at Equal e = e
    at Greater e = absurd (let g = rw e at h in cc)

both : (a b : Bool) → (a && b) ≡ true → (a ≡ true) × (b ≡ true)
both true true h = (refl, refl)
both true false h = absurd cc
both false b h = absurd cc

falls : (b : Bool) → (b ≡ true → ⊥) → b ≡ false
falls true h = absurd (h refl)
falls false h = refl

pos_same : (a b : ℕ) → pos a ≡ pos b → a ≡ b
pos_same a b h = cc

module _ (id : ℤ) (book : List ℕ) (cycle : ℕ) (round body : Value) (rule : ℤ) where
  pub hits : is_of book cycle (stored id book (pos cycle) round body rule) ≡ true
  hits = rw (text_holds book, int_holds (pos cycle)) refl

  pub misses_other : (b : List ℕ) (c : ℕ) → ((book ≡ b) × (cycle ≡ c) → ⊥) → is_of b c (stored id book (pos cycle) round body rule) ≡ false
  misses_other b c other = falls _ (λ h. let two = both _ _ h in other (text_same book b two.0, pos_same cycle c (int_same (pos cycle) (pos c) two.1)))

nothing_shown : (rows : List Row) → map kept_in rows ≡ [] → rows ≡ []
nothing_shown [] h = refl
nothing_shown (r ∷ rows) h = absurd cc

module _ (old new : Database) (book : List ℕ) (cycle : ℕ) (round body : Value) (rule : ℤ) (e : Enters old new book (pos cycle) round body rule) where
  -- where nothing was kept, the row alone is
  pub kept_here : kept_at old book cycle ≡ [] → kept_at new book cycle ≡ (round ∷ body ∷ Int rule ∷ []) ∷ []
  kept_here none =
      let rows = put_alone _ (is_of book cycle) (old.trees 3) e.free (hits e.id book cycle round body rule) (nothing_shown _ none) in
      ap (λ rs. map kept_in (filter (is_of book cycle) rs)) e.rows ∙ ap (map kept_in) rows

  -- nothing else changes
  pub kept_elsewhere : (b : List ℕ) (c : ℕ) → ((book ≡ b) × (cycle ≡ c) → ⊥) → kept_at new b c ≡ kept_at old b c
  kept_elsewhere b c other =
      let rows = put_skips _ (is_of b c) (old.trees 3) e.free (misses_other e.id book cycle round body rule b c other) in
      ap (λ rs. map kept_in (filter (is_of b c) rs)) e.rows ∙ ap (map kept_in) rows

-- the rows as a bag have one more
pub rows_more : (old new : Database) (book : List ℕ) (cycle : ℤ) (round body : Value) (rule : ℤ) → Enters old new book cycle round body rule
    → IsPermutation ((Words book ∷ Int cycle ∷ round ∷ body ∷ Int rule ∷ []) ∷ rows_of old) (rows_of new)
rows_more old new book cycle round body rule e =
    subst (λ rows. IsPermutation ((Words book ∷ Int cycle ∷ round ∷ body ∷ Int rule ∷ []) ∷ rows_of old) (map shown rows)) (sym e.rows)
    (IsPermutation-map shown _ _ (put_permutes (stored e.id book cycle round body rule) (old.trees 3) e.free))

pub entered : (old new : Database) (book : List ℕ) (cycle : ℕ) (round body : Value) (rule : ℤ) → old.schema ≡ version_2 → Enters old new book (pos cycle) round body rule
    → IsEntered old new book cycle (round ∷ body ∷ Int rule ∷ [])
entered old new book cycle round body rule has e = record {
  schema = e.schema ∙ sym has;
  here = kept_here old new book cycle round body rule e;
  elsewhere = kept_elsewhere old new book cycle round body rule e;
  rows = rows_more old new book (pos cycle) round body rule e;
  version = e.version;
  before = e.postings;
}

-- what the INSERT of `keep` does outside a transaction
pub kept : (old new : State) (book : List ℕ) (cycle round : ℕ) (body : List ℕ) (r : Result ℕ Error) → old.now.schema ≡ version_2 → old.in_transaction ≡ false
    → Executes insert_text (Words book ∷ Int (pos cycle) ∷ Int (pos round) ∷ Bytes body ∷ Int (pos 2) ∷ []) old new r
    → OnOk r (IsEntered old.now new.now book cycle (entry round body 2) × (new.committed ≡ new.now))
kept old new book cycle round body (Err e) has mode h = tt
kept old new book cycle round body (Ok n) has mode h = (
  entered old.now new.now book cycle (Int (pos round)) (Bytes body) (pos 2) has
      (enters old new book (pos cycle) (Int (pos round)) (Int (pos round)) (Bytes body) (pos 2) (Ok n) (cast_int (pos round)) has h),
  commits old new book (pos cycle) (Int (pos round)) (Bytes body) (pos 2) n has mode h,
)
