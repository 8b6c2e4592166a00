-- Which tables an archive has while it is completed.
use Rattle.std.proofs.Common.{◌≡◌, ◌⊎◌, inl, inr, ℕ, zero, suc, ◌<◌, ◌≤◌, pos, true, false, List, [], ◌∷◌, map, None, Ok, Err, Result, OnOk, IfOk, IsErrAnd, IsTrue, arith, refl, sym, ap, subst, ◌∙◌}
use Rattle.sqlite.specs.declared.types.Value.TheVariants.{Int}
use Rattle.sqlite.specs.Order.{Row, column}
use Rattle.sqlite.specs.Schema.{Schema}
use Rattle.sqlite.specs.Effect.{Database}
use Rattle.sqlite.specs.State.{State, Executes}
use Rattle.sqlite.specs.declared.error.Error.{Error}
use Rattle.gd_archive_store.specs.Tables.{archive, posting, posting2, no_schema, only_archive, version_1, first_tables, tree_of, HasArchive}
use Rattle.gd_archive_store.specs.Contents.{SaysVersion, IsArchive}
use Rattle.gd_archive_store.specs.declared.fault.StoreFault.{StoreFault}
use Rattle.gd_archive_store.specs.Calls.{Makes}
use Rattle.gd_archive_store.specs.Migration.{IsCompleted}
use Rattle.gd_archive_store.specs.Stages.{IsFound, IsBuilt, IsGrown, HasOrLacks, IsLacking}
use Rattle.gd_archive_store.proofs.Texts.{archive_is, posting_is, posting2_is, archive_plain, posting_plain, posting2_plain, create_archive_text, create_posting_text, create_posting2_text, enter_version_text}
use Rattle.gd_archive_store.proofs.Steps.{creates, EntersVersion, enters_version}

-- the one place there is between a place and the next
only : (P : ℕ → Type 0) (n : ℕ) → P n → (at : ℕ) → n ≤ at → at < suc n → P at
only P n p at up low = let same : n ≡ at = omega (arith, up, low) in subst P same p

none_below : (P : ℕ → Type 0) (at : ℕ) → at < 0 → P at
none_below P at low = absurd (omega (arith, low))

abbrev SameAt : Database → Database → ℕ → Type 0
SameAt old new at = new.trees (tree_of at) ≡ old.trees (tree_of at)

abbrev EmptyAt : Database → ℕ → Type 0
EmptyAt db at = db.trees (tree_of at) ≡ []

pub creates_archive : (old new : State) (n : ℕ) → old.now.schema ≡ no_schema → Executes create_archive_text [] old new (Ok n) → IsGrown 0 1 old.now new.now
creates_archive old new n has h =
    let it = creates create_archive_text no_schema archive archive_is.0 archive_is.1 archive_is.2 archive_plain refl old new n has h in
    record { schema = it.schema; kept = none_below (SameAt old.now new.now); made = only (EmptyAt new.now) 0 it.empty }

pub creates_posting : (old new : State) (n : ℕ) → old.now.schema ≡ only_archive → Executes create_posting_text [] old new (Ok n) → IsGrown 1 2 old.now new.now
creates_posting old new n has h =
    let it = creates create_posting_text only_archive posting posting_is.0 posting_is.1 posting_is.2 posting_plain refl old new n has h in
    record { schema = it.schema; kept = λ at low. only (SameAt old.now new.now) 0 it.others.0 at (omega arith) low; made = only (EmptyAt new.now) 1 it.empty }

two_below : (P : ℕ → Type 0) → P 0 → P 1 → (at : ℕ) → at < 2 → P at
two_below P a b zero low = a
two_below P a b (suc zero) low = b
two_below P a b (suc (suc n)) low = absurd (omega (arith, low))

pub creates_posting2 : (old new : State) (n : ℕ) → old.now.schema ≡ version_1 → Executes create_posting2_text [] old new (Ok n) → IsGrown 2 3 old.now new.now
creates_posting2 old new n has h =
    let it = creates create_posting2_text version_1 posting2 posting2_is.0 posting2_is.1 posting2_is.2 posting2_plain refl old new n has h in
    record { schema = it.schema; kept = two_below (SameAt old.now new.now) it.others.0 it.others.1.0; made = only (EmptyAt new.now) 2 it.empty }

-- at the first place nothing was made yet
pub grown_none : (count : ℕ) (old : Database) → old.schema ≡ first_tables count → IsGrown count count old old
grown_none count old has = record { schema = has; kept = λ at low. refl; made = λ at up low. absurd (omega (arith, up, low)) }

below_or : (at place : ℕ) → at < suc place → (at < place) ⊎ (place ≤ at)
below_or zero zero low = inr (omega arith)
below_or zero (suc place) low = inl (omega arith)
below_or (suc at) zero low = absurd (omega (arith, low))
below_or (suc at) (suc place) low = next (below_or at place (omega (arith, low)))
  where
    next : (at < place) ⊎ (place ≤ at) → (suc at < suc place) ⊎ (suc place ≤ suc at)
    next (inl l) = inl (omega (arith, l))
    next (inr l) = inr (omega (arith, l))

pub grown_more : (count place : ℕ) (old mid new : Database) → count ≤ place → IsGrown count place old mid → IsGrown place (suc place) mid new → IsGrown count (suc place) old new
grown_more count place old mid new up g step = record {
  schema = step.schema;
  kept = λ at low. step.kept at (omega (arith, up, low)) ∙ g.kept at low;
  made = λ at from low. made_at at from low (below_or at place low);
}
  where
    made_at : (at : ℕ) → count ≤ at → at < suc place → (at < place) ⊎ (place ≤ at) → new.trees (tree_of at) ≡ []
    made_at at from low (inl l) = step.kept at l ∙ g.made at from l
    made_at at from low (inr l) = step.made at l low

-- the version's table stands first, where there is any
first_has : (count : ℕ) (s : Schema) → 0 < count → s ≡ first_tables count → HasArchive s
first_has zero s some is = absurd (omega (arith, some))
first_has (suc zero) s some is = (_, ap (λ (t : Schema). t.tables) is)
first_has (suc (suc zero)) s some is = (_, ap (λ (t : Schema). t.tables) is)
first_has (suc (suc (suc n))) s some is = (_, ap (λ (t : Schema). t.tables) is)

no_first : (s : Schema) → s ≡ no_schema → HasArchive s → ⊥
no_first s is has = let no : archive ∷ has.0 ≡ [] = sym has.1 ∙ ap (λ (t : Schema). t.tables) is in cc

no_row : (n : ℕ) (rows : List Row) → rows ≡ [] → map (λ r. column r 2 ∷ []) rows ≡ (Int (pos n) ∷ []) ∷ [] → ⊥
no_row n [] none h = cc
no_row n (r ∷ rows) none h = cc

-- where none is found, none is said
pub says_none : (db : Database) (n : ℕ) → IsFound None db → SaysVersion db n → ⊥
says_none db n found says = no_row n (db.trees 0) (found says.table) says.version

pub lacks_none : (db : Database) → IsFound None db → IsLacking true db
lacks_none db found = record {
  version = λ count is some. found (first_has count db.schema some is);
  other = says_none db 1 found;
}

pub has_second : (db : Database) → SaysVersion db 2 → IsLacking false db
has_second db says = record { version = at; other = λ one. let no = sym one.version ∙ says.version in cc }
  where
    at : (count : ℕ) → db.schema ≡ first_tables count → HasOrLacks false count db
    at zero is = absurd (no_first db.schema is says.table)
    at (suc n) is = (omega arith, says.version)

-- with a version of its own the archive is whole once its tables are
pub whole_tables : (count : ℕ) (old new : Database) → old.schema ≡ first_tables count → HasOrLacks false count old → IsGrown count 3 old new → IsCompleted count old new
whole_tables count old new has had g = record {
  were = has;
  archive = record { schema = g.schema; version = ap (map (λ (r : Row). column r 2 ∷ [])) (g.kept 0 had.0) ∙ had.1 };
  version = λ some. inr (g.kept 0 some);
  kept = λ at some low. g.kept at low;
  made = λ at some up low. g.made at up low;
}

lacked : (count : ℕ) (old mid : Database) → HasOrLacks true count old → IsGrown count 3 old mid → mid.trees 0 ≡ []
lacked zero old mid lacks g = g.made 0 (omega arith) (omega arith)
lacked (suc n) old mid lacks g = g.kept 0 (omega arith) ∙ lacks (omega arith)

entered_same : (mid new : Database) → EntersVersion mid new → (at : ℕ) → 0 < at → new.trees (tree_of at) ≡ mid.trees (tree_of at)
entered_same mid new it zero some = absurd (omega (arith, some))
entered_same mid new it (suc zero) some = it.before
entered_same mid new it (suc (suc n)) some = it.postings

-- and without one, once it is entered
pub version_entered : (count : ℕ) (old : Database) (mid new : State) (n : ℕ) → old.schema ≡ first_tables count → HasOrLacks true count old → IsGrown count 3 old mid.now → Executes enter_version_text [] mid new (Ok n)
    → IsCompleted count old new.now
version_entered count old mid new n has lacks g h =
    let it = enters_version mid new n g.schema (lacked count old mid.now lacks g) h in
    record {
      were = has;
      archive = record { schema = it.schema; version = it.version };
      version = λ some. inl (lacks some);
      kept = λ at some low. entered_same mid.now new.now it at some ∙ g.kept at low;
      made = λ at some up low. entered_same mid.now new.now it at some ∙ g.made at up low;
    }

-- what was made of nothing is empty
pub built : (old new : Database) → IsCompleted 0 old new → IsBuilt new
built old new c = record { schema = c.archive.schema; version = c.archive.version; before = c.made 1 (omega arith) (omega arith) (omega arith); postings = c.made 2 (omega arith) (omega arith) (omega arith) }

pub completed_at : (count : ℕ) (old begun last final committed : Database) → IsCompleted count begun last → begun ≡ old → final ≡ last → committed ≡ last → IsCompleted count old final × (committed ≡ final)
completed_at count old begun last final committed h b e f =
    (subst (λ (d : Database). IsCompleted count old d) (sym e) (subst (λ (d : Database). IsCompleted count d last) b h), f ∙ sym e)

pub builds : (old : Database) (new : State) (r : Result (Unit {0}) Error) → OnOk r (IsCompleted 0 old new.now × IsTrue new.in_transaction) → OnOk r (IsBuilt new.now × IsTrue new.in_transaction)
builds old new (Ok u) h = (built old new.now h.0, h.1)
builds old new (Err e) h = tt

-- the statement of each place
pub archive_at : (place : ℕ) (old new : State) (r : Result ℕ Error) → place ≡ 0 → old.now.schema ≡ first_tables place → IfOk r (λ n. Executes create_archive_text [] old new (Ok n) × IsTrue new.in_transaction)
    → OnOk r (IsGrown place (suc place) old.now new.now × IsTrue new.in_transaction)
archive_at place old new (Err e) is has h = tt
archive_at place old new (Ok n) is has h = (subst (λ m. IsGrown m (suc m) old.now new.now) (sym is) (creates_archive old new n (has ∙ ap first_tables is) h.0), h.1)

pub posting_at : (place : ℕ) (old new : State) (r : Result ℕ Error) → place ≡ 1 → old.now.schema ≡ first_tables place → IfOk r (λ n. Executes create_posting_text [] old new (Ok n) × IsTrue new.in_transaction)
    → OnOk r (IsGrown place (suc place) old.now new.now × IsTrue new.in_transaction)
posting_at place old new (Err e) is has h = tt
posting_at place old new (Ok n) is has h = (subst (λ m. IsGrown m (suc m) old.now new.now) (sym is) (creates_posting old new n (has ∙ ap first_tables is) h.0), h.1)

pub posting2_at : (place : ℕ) (old new : State) (r : Result ℕ Error) → place ≡ 2 → old.now.schema ≡ first_tables place → IfOk r (λ n. Executes create_posting2_text [] old new (Ok n) × IsTrue new.in_transaction)
    → OnOk r (IsGrown place (suc place) old.now new.now × IsTrue new.in_transaction)
posting2_at place old new (Err e) is has h = tt
posting2_at place old new (Ok n) is has h = (subst (λ m. IsGrown m (suc m) old.now new.now) (sym is) (creates_posting2 old new n (has ∙ ap first_tables is) h.0), h.1)

pub makes_err : (old new : State) (r : Result (Unit {0}) StoreFault) (f : StoreFault) → IsErrAnd r (λ g. g ≡ f) → Makes old new (Err f) → Makes old new r
makes_err old new (Ok u) f h made = absurd h
makes_err old new (Err g) f h made = subst (λ x. Makes old new (Err x)) (sym h) made

pub made_of : (count : ℕ) (old mid new committed : Database) → mid ≡ old → IsCompleted count mid new × (committed ≡ new) → (n : ℕ) × IsCompleted n old new × (committed ≡ new)
made_of count old mid new committed same h = (count, subst (λ (d : Database). IsCompleted count d new) same h.0, h.1)

pub whole_is : (old : Database) → old.schema ≡ first_tables 3 → HasOrLacks false 3 old → IsArchive old 2
whole_is old has had = record { schema = has; version = had.1 }
