-- Where a run begins.
use Rattle.std.proofs.Common.{◌≡◌, ◌≢◌, ◌⊎◌, inl, inr, ℕ, ◌+◌, Bool, true, false, List, [], ◌∷◌, ◌++◌, length, Option, refl, sym, ap, subst, ◌∙◌, append-nil}
use Rattle.std.proofs.lemmas.List.{nil_from_length}
use Rattle.std.proofs.KnownBytes.{Consumes-nil}
use Rattle.std.specs.Io.KnownBytes.{Consumes}
use Rattle.sqlite.specs.Effect.{Database}
use Rattle.sqlite.specs.State.{State, HasCleanDisk}
use Rattle.sqlite.specs.Tree.{Trees}
use Rattle.gd_book.specs.Kept.{Kept}
use Rattle.gd_journal_store.specs.Calls.{Counts}
use Rattle.gd_journal_store.specs.Pieces.{Piece, Keeps, IsSettled, HasPieces, LeavesOr, LeavesNoMore}
use Rattle.gd_journal_store.specs.Table.{no_schema, journal}
use Rattle.gd_live.specs.Stands.{Stand}
use Rattle.gd_live.specs.Openings.{IsOpening}
use Rattle.gasday_live.specs.Books.{OpensSo, stand_behind, Stands}
use Rattle.gasday_live.specs.Runs.{KeptNone, IsHead, Begins, LeavesFront}
use Rattle.gasday_live.proofs.Opened.{opened_so}

-- the head of an input
pub head_is : (has_ended is_whole : Bool) (head bytes : List ℕ) → IsOpening head bytes has_ended → ((has_ended ≡ true) × (is_whole ≡ true)) ⊎ (has_ended ≡ false) → (is_whole ≡ true → bytes ≡ []) → IsHead head bytes
head_is has_ended is_whole head bytes opening (inr goes_on) none = inr (inr (subst (λ (b : Bool). IsOpening head bytes b) goes_on opening))
head_is has_ended is_whole head bytes opening (inl (ended, whole)) none =
    let empty = none whole in
    inr (inl (empty, subst (λ (l : List ℕ). IsOpening head l true) empty (subst (λ (b : Bool). IsOpening head bytes b) ended opening)))

-- on a new book
pub new_book : (had : Database) (all rest : Option (List ℕ)) (head bytes text kept : List ℕ) (book : Kept) (count size : ℕ) (s : Stand) (old new : State)
    → (HasCleanDisk new → KeptNone had × IsSettled [] old) → IsHead head bytes → Consumes all rest (head ++ bytes) → text ≡ head → kept ≡ head
    → OpensSo text book count size → s ≡ stand_behind book count size → (HasCleanDisk new → IsSettled [] old → IsSettled ((kept, []) ∷ []) new) → Begins had all rest bytes 0 2 s new
new_book had all rest head bytes text kept book count size s old new was is_head read text_is kept_is opened is settled =
    let opened_at = subst (λ (t : List ℕ). OpensSo t book count size) text_is opened in
    record {
      head = head;
      read = read;
      is_head = is_head;
      begun = λ up. (
        (head, []) ∷ [],
        record {
          pieces = inr ((was up).0, refl, (opened_at.rows, opened_at.opens.reads, ap (λ (x : Stand). x.number) is ∙ opened_at.count_is));
          stands = opened_so head book count size opened_at s is;
        },
        subst (λ (k : List ℕ). IsSettled ((k, []) ∷ []) new) kept_is (settled up (was up).1),
        refl,
      );
    }

-- on a book that was made again
pub old_book : (had : Database) (input : Option (List ℕ)) (bytes : List ℕ) (calls count next : ℕ) (s : Stand) (old new : State)
    → (HasCleanDisk new → (ps : List Piece) × Keeps ps had × IsSettled ps old × (count ≡ length ps)) → bytes ≡ [] → s.number ≡ 0
    → (HasCleanDisk new → (ps : List Piece) → IsSettled ps old → count ≡ length ps → IsSettled ps new × Stands ps calls s) → next ≡ count + 1 → Begins had input input bytes calls next s new
old_book had input bytes calls count next s old new was none number made next_is = record {
  head = [];
  read = subst (Consumes input input) (sym none) (Consumes-nil input);
  is_head = inl (refl, none);
  begun = λ up.
      let it = was up in
      let now = made up it.0 it.2 it.3 in (it.0, record { pieces = inl (it.1, refl, number); stands = now.1 }, now.0, next_is ∙ ap (λ n. n + 1) it.3);
}

-- ---- what a file kept

-- a journal was made where there was no table, or was there
abbrev pub WasMade : State → State → Type 0
WasMade old made = ((old.now.schema ≡ no_schema) × IsSettled [] made) ⊎ ((old.now.schema ≡ journal) × (made.now ≡ old.now))

abbrev pub AreOne : Type 0
AreOne = (ps qs : List Piece) (trees : Trees) → HasPieces ps trees → HasPieces qs trees → ps ≡ qs

-- none, where there is no piece
pub kept_none : (old made counted : State) (count : ℕ) → WasMade old made → Counts made counted count → count ≡ 0 → KeptNone old.now × IsSettled [] counted
kept_none old made counted count was (ps, is, keeps, settled) zero =
    let empty : ps ≡ [] = nil_from_length ps (sym is ∙ zero) in (
      elim was [
        | inl (no_table, new) ↦ inl no_table
        | inr (is_journal, same) ↦ inr (subst (λ (db : Database). Keeps [] db) same (subst (λ (l : List Piece). Keeps l made.now) empty keeps))
      ],
      subst (λ (l : List Piece). IsSettled l counted) empty settled,
    )

-- else the pieces that are there
pub kept_some : (one : AreOne) (old made counted : State) (count : ℕ) → WasMade old made → Counts made counted count → count ≢ 0
    → (ps : List Piece) × Keeps ps old.now × IsSettled ps counted × (count ≡ length ps)
kept_some one old made counted count (inl (no_table, new)) (ps, is, keeps, settled) some =
    let empty : ps ≡ [] = one ps [] made.now.trees keeps.pieces new.now.pieces in absurd (some (is ∙ ap (λ (l : List Piece). length l) empty))
kept_some one old made counted count (inr (is_journal, same)) (ps, is, keeps, settled) some =
    (ps, subst (λ (db : Database). Keeps ps db) same keeps, settled, is)

-- ---- what was kept is not lost

-- a crash leaves nothing more, through both
pub leaves_both : (a b c : State) → LeavesNoMore a b → LeavesNoMore b c → LeavesNoMore a c
leaves_both a b c first second db may = first db (second db may)

-- what is no more than what was settled has it at its front
pub settled_front : (ps : List Piece) (a b : State) → IsSettled ps a → LeavesNoMore a b → LeavesFront ps b
settled_front ps a b settled less db may = ([], subst (λ (l : List Piece). HasPieces l db) (sym (append-nil ps)) (settled.durable db (less db may)))

-- nor has what an append leaves
pub front_more : (ps qs : List Piece) (a b : State) → IsSettled ps a → LeavesOr (ps ++ qs) a b → LeavesFront ps b
front_more ps qs a b settled leaves db may = elim (leaves db may) [
  | inl before ↦ ([], subst (λ (l : List Piece). HasPieces l db) (sym (append-nil ps)) (settled.durable db before))
  | inr behind ↦ (qs, behind)
]

-- a journal that was there is left as it was, and then read
pub lost_read : (ps : List Piece) (old made new : State) → made ≡ old → LeavesNoMore made new → IsSettled ps old → LeavesFront ps new
lost_read ps old made new same less settled = settled_front ps old new settled (subst (λ (s : State). LeavesNoMore s new) same less)

-- where it has no piece, what comes behind none
pub lost_none : (one : AreOne) (ps : List Piece) (old made counted new : State) (count : ℕ) → made ≡ old → Counts made counted count → count ≡ 0 → IsSettled ps old → (IsSettled [] counted → LeavesFront [] new)
    → LeavesFront ps new
lost_none one ps old made counted new count same (qs, is, keeps, settled) zero had behind =
    let empty : qs ≡ [] = nil_from_length qs (sym is ∙ zero) in
    let kept = subst (λ (s : State). IsSettled ps s) (sym same) had in
    let none : ps ≡ [] = one ps qs made.now.trees kept.now.pieces keeps.pieces ∙ empty in
    subst (λ (l : List Piece). LeavesFront l new) (sym none) (behind (subst (λ (l : List Piece). IsSettled l counted) empty settled))
