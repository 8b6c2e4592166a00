-- One statement outside a transaction is one commit.
use Rattle.std.proofs.Common.{IsTrue, ◌≡◌, ◌≢◌, inl, inr, ℕ, List, None, append-nil, Ok, false, refl, sym, ap, subst, subst₂, ◌∙◌}
use Rattle.sqlite.specs.Order.{Row}
use Rattle.sqlite.specs.Schema.{Schema}
use Rattle.sqlite_schema.specs.declared.command.Command.{Command}
use Rattle.sqlite.specs.Command.TheVariants.{Commit, Release}
use Rattle.sqlite.specs.Does.{Tally, Does}
use Rattle.sqlite.specs.Tree.{Trees}
use Rattle.sqlite.specs.Effect.{Database}
use Rattle.sqlite.specs.State.{State, HasCleanDisk, Survives, Writes, mode_of, CommitsBy, MayCommit}
use Rattle.sqlite.specs.Listing.{understood}
use Rattle.sqlite.proofs.Callers.{IsPlain, command_of, statement_of}
use Rattle.gd_journal_store.specs.Pieces.{Piece, HasPieces, Keeps, IsSettled, LeavesOr}

-- while it is open, a crash leaves the last commit and nothing else
abbrev pub LeavesCommitted : State → Type 0
LeavesCommitted s = (db : Trees) → IsTrue s.is_open → s.may_leave db → db ≡ s.committed.trees

-- what is committed and seen is what a crash leaves
pub settled_on : (ps : List Piece) (s : State) → LeavesCommitted s → IsTrue s.is_open → s.in_transaction ≡ false → s.committed ≡ s.now → Keeps ps s.now → IsSettled ps s
settled_on ps s law up mode committed keeps = record {
  is_open = up;
  mode = mode;
  now = keeps;
  committed = committed;
  durable = λ db may. subst (HasPieces ps) (sym (law db up may ∙ ap (λ (d : Database). d.trees) committed)) keeps.pieces;
}

module _ (sql : List ℕ) (params : Row) (schema : Schema) (plain : IsPlain (understood schema sql)) (command : Command) (is : command_of (understood schema sql) ≡ command) (old new : State)
    (has : old.now.schema ≡ schema) (qs : List Piece)
    (makes : (tally : Tally) (after : Database) → Does old.step_limit (mode_of old) params old.now (statement_of sql (understood schema sql)) None command (Ok (tally, after)) → Keeps qs after) where
  pub settles : (count : ℕ) → LeavesCommitted new → old.in_transaction ≡ false → Writes old new None command (statement_of sql (understood schema sql)) params count → IsSettled qs new
  settles count law mode w = settled_on qs new law w.shown.is_open (w.shown.mode ∙ mode) (w.shown.committed_is ∙ rw mode refl) (makes w.tally new.now w.changed)

  module _ (no_commit : command ≢ Commit) (no_release : (name : List ℕ) → command ≢ Release name) where
    -- what the disk may have been given
    given : (db : Trees) → MayCommit old None command (statement_of sql (understood schema sql)) params db → HasPieces qs db
    given db (inl (inl e, d)) = absurd (no_commit e)
    given db (inl (inr r, d)) = absurd (no_release r.0 r.2)
    given db (inr w) = subst (HasPieces qs) (sym w.5) (makes w.1 w.2 w.3).pieces

    commits : (db : Trees) → CommitsBy sql params old db → HasPieces qs db
    unfolding CommitsBy
    commits db h =
        let known = sym h.1.is ∙ ap (λ s. understood s sql) has in
        let bare = subst IsPlain (sym known) plain in
        let it = rw (bare.0, bare.1, append-nil params) at h.2 in
        given db (subst₂ (λ k t. MayCommit old None k t params db) (ap command_of known ∙ is) (ap (statement_of sql) known) it)

    pub leaves : Survives old new (CommitsBy sql params old) → HasCleanDisk new → LeavesOr qs old new
    leaves s clean db may = elim (s.crash clean db may) [
      | inl before ↦ inl before
      | inr after ↦ inr (commits db after)
    ]
