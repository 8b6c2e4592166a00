-- Rows that are read one at a time.
use Rattle.std.proofs.Common.{◌≡◌, ℕ, ◌+◌, ◌<◌, ◌≤◌, List, [], ◌∷◌, ◌++◌, length, map, get_or, Ok, Err, Result, OnErr, refl, sym, ap, ap₂, subst, ◌∙◌, arith, length-append}
use Rattle.std.proofs.lemmas.List.{map-append, length-map}
use Rattle.sqlite.specs.Order.{Row}
use Rattle.sqlite.specs.Effect.{Database}
use Rattle.sqlite.specs.Schema.{Schema}
use Rattle.sqlite.specs.Listing.{understood}
use Rattle.sqlite.specs.State.{State, Shown, Survives, CommitsShowing, IsUnchanged}
use Rattle.sqlite.specs.Held.{Held, state}
use Rattle.sqlite.specs.Given.{HasGiven}
use Rattle.sqlite_trees.specs.declared.store.Store.{Ghosts}
use Rattle.sqlite_resolve.specs.declared.compiled.Compiled.{Compiled}
use Rattle.sqlite.proofs.StateLemmas.{survives_weaker}
use Rattle.sqlite.proofs.Callers.{IsPlain, command_of, EndsIn, begins_shown, given_begin, never_commits, unchanged_then}
use Rattle.gd_journal_store.specs.Table.{journal}
use Rattle.gd_journal_store.specs.Pieces.{Piece, numbered, numbered_at, HasPieces}
use Rattle.gd_journal_store.specs.Rows.{shape}
use Rattle.gd_journal_store.specs.Calls.{IsOfRows}
use Rattle.gd_journal_store.specs.declared.fault.StoreFault.{StoreFault}
use Rattle.gd_journal_store.specs.declared.fault.StoreFault.TheVariants.{NotAJournal, Damaged, Store}
use Rattle.gd_journal_store.proofs.Numbers.{numbered_more, length_numbered, at}
use Rattle.gd_journal_store.proofs.Listing.{shows_all, shows_each}
use Rattle.gd_journal_store.proofs.Texts.{all_text, all_is}

-- these rows were given so far, and so many pieces are what they are
pub record HasCounted (given : List Row) (n : ℕ) : Type 0 where
  pub ps : List Piece
  pub shapes : map shape given ≡ numbered 1 ps
  pub count : n ≡ length ps

-- what was given so far is counted
pub record IsCounting (Given : List Row → Type 0) (n : ℕ) : Type 0 where
  pub given : List Row
  pub rows : Given given
  pub counted : HasCounted given n

pub none_counted : HasCounted [] 0
none_counted = record { ps = []; shapes = refl; count = refl }

pub one_counted : (given : List Row) (n : ℕ) (row : Row) (p : Piece) → HasCounted given n → shape row ≡ numbered_at (n + 1) p → HasCounted (given ++ row ∷ []) (n + 1)
one_counted given n row p h is = record {
  ps = h.ps ++ p ∷ [];
  shapes =
      let at : n + 1 ≡ length h.ps + 1 = omega (arith, h.count) in
      map-append shape given (row ∷ []) ∙ ap (λ l. l ++ shape row ∷ []) h.shapes ∙ ap (λ r. numbered 1 h.ps ++ r ∷ []) (is ∙ ap (λ m. numbered_at m p) at) ∙ sym (numbered_more 1 h.ps p);
  count = omega (arith, h.count, length-append h.ps (p ∷ []));
}

pub all_plain : (s : Schema) → s ≡ journal → IsPlain (understood s all_text)
all_plain s e = subst (λ t. IsPlain (understood t all_text)) (sym e) all_is.2

-- a query commits nothing
pub commits_none : (sql : List ℕ) → IsPlain (understood journal sql) → (params : Row) (old new : State) → old.now.schema ≡ journal → Survives old new (CommitsShowing sql params old) → Survives old new (λ _. ⊥)
commits_none sql plain params old new has = survives_weaker old new _ _ (λ _ db. never_commits sql params old db (subst (λ s. IsPlain (understood s sql)) (sym has) plain))

pub commits_nothing : (old new : State) → old.now.schema ≡ journal → Survives old new (CommitsShowing all_text [] old) → Survives old new (λ _. ⊥)
commits_nothing = commits_none all_text all_is.2 []

module _ {S : Type 0} (g : Ghosts S) (old h : Held S) (has : old.schema ≡ journal) (same : IsUnchanged (state g old) (state g h)) where
  schema_is : h.schema ≡ journal
  schema_is = ap (λ (d : Database). d.schema) same.0.now_is ∙ has

  -- the query is no recursion, so it has an end
  ends : (c : Compiled) (db : Database) (params : Row) → understood h.schema all_text ≡ Ok c → EndsIn c.command db params
  ends c db params is =
      let known : c.command ≡ _ = ap command_of (sym is ∙ ap (λ s. understood s all_text) schema_is) ∙ all_is.0 in
      subst (λ k. EndsIn k db params) (sym known) tt

  unchanged : IsUnchanged (state g h) (state g h)
  unchanged = (record { was_open = same.0.is_open; is_open = same.0.is_open; now_is = refl; committed_is = refl; mode = refl }, record { changes = refl; last_rowid = refl }, refl)

  -- the rows that were given so far are the first pieces
  pub given_of : (given : List Row) → HasGiven g all_text [] h given → (ps : List Piece) → HasPieces ps (state g old).now.trees → (tail : List Row) × (map shape (given ++ tail) ≡ numbered 1 ps)
  given_of given it ps pieces =
      let s = state g h in
      let whole = begins_shown all_text [] s s given (given_begin g all_text [] h given it) unchanged (λ c db statement from. ends c db _ statement.is) in
      (whole.0, shows_each s s (given ++ whole.0) schema_is whole.1 ps (subst (λ (d : Database). HasPieces ps d.trees) (sym same.0.now_is) pieces))

reach : (given tail : List Row) (row : Row) → length given < length (map shape ((given ++ row ∷ []) ++ tail))
reach [] tail row = omega arith
reach (r ∷ given) tail row = omega (arith, reach given tail row)

placed : (given tail : List Row) (row d : Row) → get_or (map shape ((given ++ row ∷ []) ++ tail)) (length given) d ≡ shape row
placed [] tail row d = refl
placed (r ∷ given) tail row d = placed given tail row d

counted_length : (given : List Row) (n : ℕ) → HasCounted given n → length given ≡ n
counted_length given n h = sym (length-map given shape) ∙ ap length h.shapes ∙ length_numbered 1 h.ps ∙ sym h.count

-- the row behind those that were counted is the next piece
pub next_piece : (given tail : List Row) (n : ℕ) (row : Row) (ps : List Piece) → HasCounted given n → map shape ((given ++ row ∷ []) ++ tail) ≡ numbered 1 ps
    → (n < length ps) × (shape row ≡ numbered_at (n + 1) (get_or ps n ([], [])))
next_piece given tail n row ps counted is =
    let len = counted_length given n counted in
    let low : n < length ps = omega (arith, len, reach given tail row, ap length is, length_numbered 1 ps) in
    (low, sym (placed given tail row []) ∙ ap₂ (λ (l : List Row) (i : ℕ). get_or l i []) is len ∙ at 1 ps n [] low)

-- so many rows as were counted are no more than the pieces
pub no_more : (given tail : List Row) (n : ℕ) (ps : List Piece) → HasCounted given n → map shape (given ++ tail) ≡ numbered 1 ps → n ≤ length ps
no_more given tail n ps counted is =
    omega (arith, counted_length given n counted, ap length is, length_numbered 1 ps, length-map (given ++ tail) shape, length-append given tail)

pub damage_weaker : (A B : Type 0) (fault : StoreFault) → (A → B) → IsOfRows A fault → IsOfRows B fault
damage_weaker A B NotAJournal f h = h
damage_weaker A B Damaged f h = f h
damage_weaker A B (Store e) f h = h

-- an answer that is counted to its end is all pieces
pub all_counted : (first old new : State) (given : List Row) (n : ℕ) → first.now.schema ≡ journal → IsUnchanged first old → Shown all_text [] old new given → HasCounted given n
    → (ps : List Piece) × (n ≡ length ps) × HasPieces ps first.now.trees × IsUnchanged first new
all_counted first old new given n has same shown h =
    let is : old.now.schema ≡ journal = ap (λ (d : Database). d.schema) same.0.now_is ∙ has in
    let all = shows_all old new given is shown in
    (h.ps, h.count, subst (λ (d : Database). HasPieces h.ps d.trees) same.0.now_is (rw h.shapes at all.0), unchanged_then first old new same all.1)

pub on_err : {X E P : Type 0} (r : Result X E) → P → OnErr r P
on_err (Ok x) p = tt
on_err (Err e) p = p
