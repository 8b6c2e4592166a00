-- Turns one after the other.
use Rattle.std.specs.Prelude.{IfSome}
use Rattle.std.proofs.Common.{◌≡◌, ◌⊎◌, inl, inr, ◌+◌, ◌==◌, ℕ, Bool, true, false, List, [], ◌∷◌, ◌++◌, length, take, Option, Some, None, append-nil, refl, sym, ap, subst, ◌∙◌, if◌then◌else◌, arith, eqb-true}
use Rattle.std.proofs.lemmas.List.{append_assoc, nil_from_length}
use Rattle.std.proofs.lemmas.Grind.{flat_map-append}
use Rattle.std.proofs.Math.Seq.{take-append-add}
use Rattle.std.proofs.KnownBytes.{Appends-nil, Appends-trans, Consumes-nil, Consumes-trans}
use Rattle.std.specs.Io.KnownBytes.{Appends, Consumes, IsAtEnd}
use Rattle.sqlite.specs.Tree.{Trees}
use Rattle.sqlite.specs.State.{State, HasCleanDisk}
use Rattle.gd_journal_store.specs.Pieces.{Piece, IsSettled, LeavesOr, HasPieces}
use Rattle.gd_serving.specs.Lines.{cut}
use Rattle.gd_serving.specs.Yields.{Yield, told_of, piece_of, LinesGive}
use Rattle.gd_serving.specs.Turns.{grown, IsSettledAt, IsUntouched, IsUnkept, IsUntold, GoesOn, Stops}
use Rattle.gd_serving.specs.Runs.{rows_text, told_text, AreOf, HasKept, KeepsOn, Served, StoppedUnread, StoppedUnkept, StoppedUntold, Stopped}
use Rattle.gd_serving.specs.declared.failure.Failure.{Failure}
use Rattle.gd_serving.specs.declared.failure.Failure.TheVariants.{ReadFailed, OutOfMemory, Store, WriteFailed}
use Rattle.gd_serving.proofs.Cutting.{Cut, cut_append}
use Rattle.gd_serving.proofs.Giving.{rows_append, replies_append, told_append, give_append}

-- one piece more, if it has anything, is the same in what is kept
all_grown : (ps more : List Piece) (p : Piece) → (b : Bool) → (length p.0 + length p.1 == 0) ≡ b
    → (all : List Piece) × ((if b then (ps ++ more) else (ps ++ more) ++ p ∷ []) ≡ ps ++ all) × (rows_text all ≡ rows_text more ++ p.0) × (told_text all ≡ told_text more ++ p.1)
all_grown ps more p true e =
    let sum : length p.0 + length p.1 ≡ 0 = eqb-true (length p.0 + length p.1) 0 e in
    let rows : p.0 ≡ [] = nil_from_length p.0 (omega (arith, sum)) in
    let told : p.1 ≡ [] = nil_from_length p.1 (omega (arith, sum)) in
    (more, refl, sym (append-nil (rows_text more)) ∙ ap (λ l. rows_text more ++ l) (sym rows), sym (append-nil (told_text more)) ∙ ap (λ l. told_text more ++ l) (sym told))
all_grown ps more p false e = (
  more ++ p ∷ [],
  append_assoc ps more (p ∷ []),
  flat_map-append (λ (q : Piece). q.0) more (p ∷ []) ∙ ap (λ l. rows_text more ++ l) (append-nil p.0),
  flat_map-append (λ (q : Piece). q.1) more (p ∷ []) ∙ ap (λ l. told_text more ++ l) (append-nil p.1),
)

module _ (ps : List Piece) (ys zs : List Yield) (was : ℕ) (old : State) (had : KeepsOn ps ys was old) where
  abbrev p : Piece
  p = piece_of zs

  abbrev more_kept : (all : List Piece) × (grown (ps ++ had.more) p ≡ ps ++ all) × (rows_text all ≡ rows_text had.more ++ p.0) × (told_text all ≡ told_text had.more ++ p.1)
  more_kept = all_grown ps had.more p (length p.0 + length p.1 == 0) refl

  are_more : AreOf (ys ++ zs) more_kept.0
  are_more = record {
    rows = more_kept.2 ∙ ap (λ l. l ++ p.0) had.are.rows ∙ sym (rows_append ys zs);
    replies = more_kept.3 ∙ ap (λ l. l ++ p.1) had.are.replies ∙ sym (replies_append ys zs);
  }

  pub keeps_more : (is : ℕ) (new : State) → IsSettledAt (grown (ps ++ had.more) p) is new → KeepsOn ps (ys ++ zs) is new
  keeps_more is new now = record {
    more = more_kept.0;
    settled = subst (λ (l : List Piece). IsSettled l new) more_kept.1 now.0;
    next = now.1 ∙ ap (λ (l : List Piece). length l + 1) more_kept.1;
    are = are_more;
  }

  pub may_leave_more : (new : State) → LeavesOr (grown (ps ++ had.more) p) old new → (db : Trees) → new.may_leave db → HasKept ps ys db ⊎ HasKept ps (ys ++ zs) db
  may_leave_more new leaves db may = elim (leaves db may) [
    | inl before ↦ inl (record { more = had.more; has = had.settled.durable db before; are = had.are })
    | inr behind ↦ inr (record { more = more_kept.0; has = subst (λ (l : List Piece). HasPieces l db) more_kept.1 behind; are = are_more })
  ]

-- nothing more is kept
keeps_same : (ps : List Piece) (ys : List Yield) (number : ℕ) (old new : State) (had : KeepsOn ps ys number old) → IsSettled (ps ++ had.more) new → KeepsOn ps ys number new
keeps_same ps ys number old new had settled = record { more = had.more; settled = settled; next = had.next; are = had.are }

untouched : (was : ℕ) (s : State) (out : Option (List ℕ)) → IsUntouched was s s out out
untouched was s out = record { tells = Appends-nil out; keeps = λ up ps had is. had }

-- What a loop over turns keeps.
pub record IsServing {S : Type 0} (gives : S → List ℕ → S → Yield → Type 0) (s : S) (was : ℕ) (first now : State) (reader0 reader out0 out : Option (List ℕ)) (t : S) (begun : List ℕ) (next : ℕ) : Type 0 where
  pub seen : List ℕ
  pub consumed : Consumes reader0 reader seen
  pub begun_is : begun ≡ (cut [] seen).1
  pub yields : List Yield
  pub gave : LinesGive gives s (cut [] seen).0 t yields
  pub tells : Appends out0 out (told_of yields)
  pub keeps : HasCleanDisk now → (ps : List Piece) → IsSettled ps first → was ≡ length ps + 1 → KeepsOn ps yields next now
  pub clean : HasCleanDisk now → HasCleanDisk first

module _ {S : Type 0} (gives : S → List ℕ → S → Yield → Type 0) (s : S) (was : ℕ) (first : State) (reader0 out0 : Option (List ℕ)) where
  pub begins : (begun : List ℕ) → begun ≡ [] → IsServing gives s was first first reader0 reader0 out0 out0 s begun was
  begins begun none = record {
    seen = [];
    consumed = Consumes-nil reader0;
    begun_is = none;
    yields = [];
    gave = refl;
    tells = Appends-nil out0;
    keeps = λ up ps had is. record {
      more = [];
      settled = subst (λ (l : List Piece). IsSettled l first) (sym (append-nil ps)) had;
      next = is ∙ ap (λ (l : List Piece). length l + 1) (sym (append-nil ps));
      are = record { rows = refl; replies = refl };
    };
    clean = λ up. up;
  }

  module _ (now : State) (reader out : Option (List ℕ)) (t : S) (begun : List ℕ) (next : ℕ) (here : IsServing gives s was first now reader0 reader out0 out t begun next) where
    module _ (bytes : List ℕ) where
      abbrev rows : List (List ℕ)
      rows = (cut [] here.seen).0

      abbrev last : List (List ℕ)
      last = (cut begun bytes).0

      whole : cut [] (here.seen ++ bytes) ≡ (rows ++ last, (cut begun bytes).1)
      whole = cut_append [] here.seen bytes ∙ ap (λ (l : List ℕ). (rows ++ (cut l bytes).0, (cut l bytes).1)) (sym here.begun_is)

      all_rows : (cut [] (here.seen ++ bytes)).0 ≡ rows ++ last
      all_rows = ap (λ (c : Cut). c.0) whole

      pub goes_on : (now1 : State) (reader1 out1 : Option (List ℕ)) (t1 : S) (begun1 : List ℕ) (next1 : ℕ) → Consumes reader reader1 bytes → begun1 ≡ (cut begun bytes).1 → (HasCleanDisk now1 → HasCleanDisk now)
          → GoesOn gives t last t1 next next1 now now1 out out1 → IsServing gives s was first now1 reader0 reader1 out0 out1 t1 begun1 next1
      goes_on now1 reader1 out1 t1 begun1 next1 read begun_is clean on = record {
        seen = here.seen ++ bytes;
        consumed = Consumes-trans _ _ _ _ _ here.consumed read;
        begun_is = begun_is ∙ ap (λ (c : Cut). c.1) (sym whole);
        yields = here.yields ++ on.yields;
        gave = subst (λ (l : List (List ℕ)). LinesGive gives s l t1 (here.yields ++ on.yields)) (sym all_rows) (give_append gives s rows t here.yields last t1 on.yields here.gave on.gave);
        tells = subst (Appends out0 out1) (sym (told_append here.yields on.yields)) (Appends-trans _ _ _ _ _ here.tells on.tells);
        keeps = λ up ps had is.
            let before = here.keeps (clean up) ps had is in
            keeps_more ps here.yields on.yields next now before next1 now1 (on.keeps up (ps ++ before.more) before.settled before.next);
        clean = λ up. here.clean (clean up);
      }

      -- the lines of the text that are behind those of the last turn
      abbrev behind : List ℕ → List (List ℕ)
      behind more = (cut (cut [] (here.seen ++ bytes)).1 more).0

      front : (more : List ℕ) → (cut [] ((here.seen ++ bytes) ++ more)).0 ≡ (rows ++ last) ++ behind more
      front more = ap (λ (c : Cut). c.0) (cut_append [] (here.seen ++ bytes) more) ∙ ap (λ (l : List (List ℕ)). l ++ behind more) all_rows

      module _ (now1 : State) (out1 : Option (List ℕ)) (clean : HasCleanDisk now1 → HasCleanDisk now) (more : List ℕ) where
        abbrev text : List (List ℕ)
        text = (cut [] ((here.seen ++ bytes) ++ more)).0

        unread : IsUntouched next now now1 out out1 → StoppedUnread gives s text was first now1 out0 out1
        unread same = record {
          lines = rows;
          rest = last ++ behind more;
          front = front more ∙ append_assoc rows last (behind more);
          stand = t;
          yields = here.yields;
          gave = here.gave;
          tells = subst (Appends out0 out1) (append-nil (told_of here.yields)) (Appends-trans _ _ _ _ _ here.tells same.tells);
          keeps = λ up ps had is.
              let before = here.keeps (clean up) ps had is in
              (next, keeps_same ps here.yields next now now1 before (same.keeps up (ps ++ before.more) before.settled before.next));
        }

        unkept : (u : S) (zs : List Yield) → LinesGive gives t last u zs → IsUnkept (piece_of zs) next now now1 out out1 → StoppedUnkept gives s text was first now1 out0 out1
        unkept u zs gave it = record {
          lines = rows;
          last = last;
          rest = behind more;
          front = front more;
          mid = t;
          stand = u;
          yields = here.yields;
          more = zs;
          gave = here.gave;
          gave_more = gave;
          tells = subst (Appends out0 out1) (append-nil (told_of here.yields)) (Appends-trans _ _ _ _ _ here.tells it.tells);
          leaves = λ up ps had is.
              let before = here.keeps (clean up) ps had is in
              may_leave_more ps here.yields zs next now before now1 (it.leaves up (ps ++ before.more) before.settled before.next);
        }

        untold : (u : S) (zs : List Yield) → LinesGive gives t last u zs → IsUntold (piece_of zs) (told_of zs) next now now1 out out1 → StoppedUntold gives s text was first now1 out0 out1
        untold u zs gave it = record {
          lines = rows ++ last;
          rest = behind more;
          front = front more;
          stand = u;
          yields = here.yields ++ zs;
          gave = give_append gives s rows t here.yields last u zs here.gave gave;
          bytes = length (told_of here.yields) + it.bytes;
          tells =
              let split = sym (take-append-add (told_of here.yields) (told_of zs) it.bytes) in
              let whole = ap (take (length (told_of here.yields) + it.bytes)) (sym (told_append here.yields zs)) in
              subst (Appends out0 out1) (split ∙ whole) (Appends-trans _ _ _ _ _ here.tells it.tells);
          keeps = λ up ps had is.
              let before = here.keeps (clean up) ps had is in
              (length (grown (ps ++ before.more) (piece_of zs)) + 1, keeps_more ps here.yields zs next now before _ now1 (it.keeps up (ps ++ before.more) before.settled before.next, refl));
        }

        stopped_at : (why : Failure) → Stops gives t last next now now1 out out1 why → Stopped gives s text was first now1 out0 out1 why
        stopped_at ReadFailed h = unread h
        stopped_at OutOfMemory h = unread h
        stopped_at (Store fault) h = unkept h.0 h.1 h.2 h.3
        stopped_at WriteFailed h = untold h.0 h.1 h.2 h.3

      stops_in : (now1 : State) (out1 : Option (List ℕ)) (clean : HasCleanDisk now1 → HasCleanDisk now) (why : Failure) (a b : Option (List ℕ)) → Consumes a b (here.seen ++ bytes)
          → Stops gives t last next now now1 out out1 why → IfSome a (λ text. Stopped gives s (cut [] text).0 was first now1 out0 out1 why)
      stops_in now1 out1 clean why None b read h = tt
      stops_in now1 out1 clean why (Some _) None read h = absurd read
      stops_in now1 out1 clean why (Some xs) (Some more) read h =
          subst (λ (l : List ℕ). Stopped gives s (cut [] l).0 was first now1 out0 out1 why) (sym read) (stopped_at now1 out1 clean more why h)

      pub stops : (now1 : State) (reader1 out1 : Option (List ℕ)) (why : Failure) → (HasCleanDisk now1 → HasCleanDisk now) → Consumes reader reader1 bytes → Stops gives t last next now now1 out out1 why
          → IfSome reader0 (λ text. Stopped gives s (cut [] text).0 was first now1 out0 out1 why)
      stops now1 reader1 out1 why clean read h = stops_in now1 out1 clean why reader0 reader1 (Consumes-trans _ _ _ _ _ here.consumed read) h

    -- the text's end changes nothing
    ended_in : (P : List ℕ → Type 0) → P begun → (a b : Option (List ℕ)) → Consumes a b here.seen → IsAtEnd b → IfSome a (λ text. P (cut [] text).1 × Served gives s (cut [] text).0 t was first now out0 out)
    ended_in P left None b read end = tt
    ended_in P left (Some _) None read end = absurd read
    ended_in P left (Some xs) (Some more) read end =
        let is : xs ≡ here.seen = read ∙ ap (λ l. here.seen ++ l) end ∙ append-nil here.seen in
        subst (λ (l : List ℕ). P (cut [] l).1 × Served gives s (cut [] l).0 t was first now out0 out) (sym is) (
          subst P here.begun_is left,
          record {
            yields = here.yields;
            gave = here.gave;
            tells = here.tells;
            keeps = λ up ps had is. (next, here.keeps up ps had is);
          },
        )

    pub ended : (P : List ℕ → Type 0) → P begun → IsAtEnd reader → IfSome reader0 (λ text. P (cut [] text).1 × Served gives s (cut [] text).0 t was first now out0 out)
    ended P left end = ended_in P left reader0 reader here.consumed end

    -- nor does it where turns run out, or nothing can be read
    pub runs_out : IfSome reader0 (λ text. Stopped gives s (cut [] text).0 was first now out0 out ReadFailed)
    runs_out = stops [] now reader out ReadFailed (λ up. up) (Consumes-nil reader) (untouched next now out)

    pub out_of_memory : IfSome reader0 (λ text. Stopped gives s (cut [] text).0 was first now out0 out OutOfMemory)
    out_of_memory = stops [] now reader out OutOfMemory (λ up. up) (Consumes-nil reader) (untouched next now out)
