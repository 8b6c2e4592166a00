-- Pieces that are taken again, one after the other.
use Rattle.std.proofs.Common.{◌≡◌, ℕ, suc, ◌+◌, ◌-◌, ◌<◌, ◌≤◌, List, [], ◌∷◌, ◌++◌, length, take, drop, get_or, map, refl, sym, ap, subst, ◌∙◌, arith, add-zero, add_assoc}
use Rattle.std.proofs.lemmas.List.{append_assoc, take-append-drop, take_all, length-take, length-drop, length-append, length-map, map-append, take-map, drop-drop}
use Rattle.std.proofs.lemmas.Grind.{flat_map-append}
use Rattle.std.proofs.Math.Seq.{take-add, take-suc, split_at}
use Rattle.sqlite.specs.State.{State, HasCleanDisk}
use Rattle.gd_journal_store.specs.Pieces.{Piece, IsSettled, LeavesNoMore}
use Rattle.gd_journal_store.specs.Seen.{seen}
use Rattle.gd_journal_store.specs.Calls.{part}
use Rattle.gd_journal_store.specs.declared.reading.Piece.{Piece as InMemory}
use Rattle.gd_serving.specs.Lines.{cut}
use Rattle.gd_serving.specs.Yields.{Yield, rows_of, replies_of, kept_count}
use Rattle.gd_serving.specs.Runs.{rows_text, told_text}
use Rattle.gd_serving.specs.Replays.{Replays, PieceDiffers, FirstDiffers, Blames}
use Rattle.gd_serving.specs.declared.replaying.ReplayFault.{ReplayFault}
use Rattle.gd_serving.specs.declared.replaying.ReplayFault.TheVariants.{Differs, OutOfMemory, Store}
use Rattle.gd_serving.proofs.Cutting.{Cut, cut_on, cut_append}
use Rattle.gd_serving.proofs.Giving.{rows_append, replies_append, kept_append, give_append}

module _ {S : Type 0} (gives : S → List ℕ → S → Yield → Type 0) where
  pub replays_none : (s : S) → Replays gives s [] s 0
  replays_none s = record { lines = []; whole = refl; yields = []; gave = refl; are = record { rows = refl; replies = refl }; count = refl }

  -- pieces behind pieces
  pub replays_append : (s : S) (ps : List Piece) (mid : S) (k : ℕ) (qs : List Piece) (t : S) (m : ℕ) → Replays gives s ps mid k → Replays gives mid qs t m → Replays gives s (ps ++ qs) t (k + m)
  replays_append s ps mid k qs t m a b =
      let rows = flat_map-append (λ (p : Piece). p.0) ps qs in
      let told = flat_map-append (λ (p : Piece). p.1) ps qs in
      let cut_both : cut [] (rows_text (ps ++ qs)) ≡ (a.lines ++ b.lines, []) =
      ap (cut []) rows ∙ cut_append [] (rows_text ps) (rows_text qs) ∙ ap (λ (c : Cut). cut_on c (rows_text qs)) a.whole ∙ ap (λ (c : Cut). (a.lines ++ c.0, c.1)) b.whole in
      record {
        lines = a.lines ++ b.lines;
        whole = cut_both;
        yields = a.yields ++ b.yields;
        gave = give_append gives s a.lines mid a.yields b.lines t b.yields a.gave b.gave;
        are = record {
          rows = rows ∙ ap (λ l. l ++ rows_text qs) a.are.rows ∙ ap (λ l. rows_of a.yields ++ l) b.are.rows ∙ sym (rows_append a.yields b.yields);
          replies = told ∙ ap (λ l. l ++ told_text qs) a.are.replies ∙ ap (λ l. replies_of a.yields ++ l) b.are.replies ∙ sym (replies_append a.yields b.yields);
        };
        count = ap (λ n. n + m) a.count ∙ ap (λ n. kept_count a.yields + n) b.count ∙ sym (kept_append a.yields b.yields);
      }

-- What a loop over pieces keeps: those so far replay.
pub record IsAgain {S : Type 0} (gives : S → List ℕ → S → Yield → Type 0) (s0 : S) (all : List InMemory) (first : ℕ) (i : ℕ) (s : S) (next : ℕ) : Type 0 where
  pub calls : ℕ
  pub replays : Replays gives s0 (map seen (take i all)) s calls
  pub next_is : next ≡ first + calls

-- What a loop over batches keeps: so many pieces replay, and the journal is as it was.
pub record IsReplaying {S : Type 0} (gives : S → List ℕ → S → Yield → Type 0) (s0 : S) (after count : ℕ) (first now : State) (at : ℕ) (s : S) (next : ℕ) : Type 0 where
  pub done : ℕ
  pub at_is : at ≡ after + done
  pub counts : 1 ≤ next
  pub keeps : HasCleanDisk now → (ps : List Piece) → IsSettled ps first → count ≡ length ps → IsSettled ps now × (calls : ℕ) × Replays gives s0 (take done (drop after ps)) s calls × (next ≡ 1 + calls)
  pub clean : HasCleanDisk now → HasCleanDisk first
  pub leaves : HasCleanDisk now → LeavesNoMore first now

module _ {S : Type 0} (gives : S → List ℕ → S → Yield → Type 0) (s0 : S) where
  pub begins : (all : List InMemory) (first : ℕ) → IsAgain gives s0 all first 0 s0 first
  begins all first = record { calls = 0; replays = replays_none gives s0; next_is = sym (add-zero first) }

  module _ (all : List InMemory) (first i : ℕ) (s : S) (next : ℕ) (here : IsAgain gives s0 all first i s next) (piece : InMemory) (low : i < length all) (is : piece ≡ get_or all i piece) where
    abbrev behind : List InMemory
    behind = drop (i + 1) all

    split : all ≡ take i all ++ piece ∷ behind
    split =
        let next : suc i ≡ i + 1 = omega arith in
        split_at all i piece low ∙ ap (λ x. take i all ++ x ∷ drop (suc i) all) (sym is) ∙ ap (λ n. take i all ++ piece ∷ drop n all) next

    one_more : take (i + 1) all ≡ take i all ++ piece ∷ []
    one_more =
        let next : i + 1 ≡ suc i = omega arith in
        ap (λ n. take n all) next ∙ take-suc all i piece low ∙ ap (λ x. take i all ++ x ∷ []) (sym is)

    pub goes_on : (t : S) (next1 : ℕ) → ((calls : ℕ) × Replays gives s (seen piece ∷ []) t calls × (next1 ≡ next + calls)) → IsAgain gives s0 all first (i + 1) t next1
    goes_on t next1 more = record {
      calls = here.calls + more.0;
      replays = subst (λ (l : List Piece). Replays gives s0 l t (here.calls + more.0)) (sym (ap (map seen) one_more ∙ map-append seen (take i all) (piece ∷ [])))
          (replays_append gives s0 (map seen (take i all)) s here.calls (seen piece ∷ []) t more.0 here.replays more.1);
      next_is = more.2 ∙ ap (λ n. n + more.0) here.next_is ∙ add_assoc first here.calls more.0;
    }

    size : length (map seen (take i all)) ≡ i
    size = ap length (sym (take-map seen i all)) ∙ length-take i (map seen all) ∙ omega (arith, low, length-map all seen)

    pub differs : (after number call : ℕ) → number ≡ (after + i) + 1 → PieceDiffers gives s (seen piece) next call → FirstDiffers gives s0 (map seen all) (after + 1) first number call
    differs after number call n d = record {
      before = map seen (take i all);
      it = seen piece;
      behind = map seen behind;
      are = ap (map seen) split ∙ map-append seen (take i all) (piece ∷ behind);
      place = omega (arith, n, size);
      mid = s;
      calls = here.calls;
      replays = here.replays;
      differs = subst (λ m. PieceDiffers gives s (seen piece) m call) here.next_is d;
    }

  pub begins_batches : (after count : ℕ) (now : State) → IsReplaying gives s0 after count now now after s0 1
  begins_batches after count now = record {
    done = 0;
    at_is = sym (add-zero after);
    counts = omega arith;
    keeps = λ up ps had is. (had, 0, replays_none gives s0, refl);
    clean = λ up. up;
    leaves = λ up db may. may;
  }

  module _ (after count : ℕ) (first now : State) (at : ℕ) (s : S) (next : ℕ) (here : IsReplaying gives s0 after count first now at s next) where
    module _ (ps : List Piece) (size : ℕ) (batch : List Piece) (is : batch ≡ part at size ps) where
      abbrev taken : List Piece
      taken = take here.done (drop after ps)

      from : drop at ps ≡ drop here.done (drop after ps)
      from = ap (λ n. drop n ps) here.at_is ∙ sym (drop-drop here.done after ps)

      longer : take (here.done + size) (drop after ps) ≡ taken ++ batch
      longer = take-add here.done size (drop after ps) ∙ ap (λ (l : List Piece). taken ++ take size l) (sym from) ∙ ap (λ (l : List Piece). taken ++ l) (sym is)

      all : drop after ps ≡ (taken ++ batch) ++ drop (here.done + size) (drop after ps)
      all = sym (take-append-drop (here.done + size) (drop after ps)) ∙ ap (λ (l : List Piece). l ++ drop (here.done + size) (drop after ps)) longer

      module _ (calls : ℕ) (before : Replays gives s0 taken s calls) (next_is : next ≡ 1 + calls) where
        more_calls : (m : ℕ) (next1 : ℕ) → next1 ≡ next + m → next1 ≡ 1 + (calls + m)
        more_calls m next1 e = omega (arith, e, next_is)

        pub batch_replays : (t : S) (next1 : ℕ) → ((m : ℕ) × Replays gives s batch t m × (next1 ≡ next + m)) → (k : ℕ) × Replays gives s0 (take (here.done + size) (drop after ps)) t k × (next1 ≡ 1 + k)
        batch_replays t next1 more = (
          calls + more.0,
          subst (λ (l : List Piece). Replays gives s0 l t (calls + more.0)) (sym longer) (replays_append gives s0 taken s calls batch t more.0 before more.1),
          more_calls more.0 next1 more.2,
        )

        first_differs : here.done ≤ length (drop after ps) → (piece call : ℕ) → FirstDiffers gives s batch (at + 1) next piece call → FirstDiffers gives s0 (drop after ps) (after + 1) 1 piece call
        first_differs short piece call d =
            let rest = drop (here.done + size) (drop after ps) in
            let front : length taken ≡ here.done = length-take here.done (drop after ps) ∙ omega (arith, short) in
            record {
              before = taken ++ d.before;
              it = d.it;
              behind = d.behind ++ rest;
              are = all ∙ ap (λ (l : List Piece). (taken ++ l) ++ rest) d.are ∙ ap (λ (l : List Piece). l ++ rest) (sym (append_assoc taken d.before (d.it ∷ d.behind)))
                  ∙ append_assoc (taken ++ d.before) (d.it ∷ d.behind) rest;
              place = omega (arith, d.place, here.at_is, front, length-append taken d.before);
              mid = d.mid;
              calls = calls + d.calls;
              replays = replays_append gives s0 taken s calls d.before d.mid d.calls before d.replays;
              differs = subst (λ m. PieceDiffers gives d.mid d.it m call) (ap (λ n. n + d.calls) next_is ∙ add_assoc 1 calls d.calls) d.differs;
            }

        pub blames : here.done ≤ length (drop after ps) → (fault : ReplayFault) → Blames gives s batch (at + 1) next fault → Blames gives s0 (drop after ps) (after + 1) 1 fault
        blames short (Differs piece call) d = first_differs short piece call d
        blames short OutOfMemory d = tt
        blames short (Store fault) d = tt

    -- one batch more
    pub batch_taken : (now1 : State) (size : ℕ) (batch : List Piece) (t : S) (next1 : ℕ) → (HasCleanDisk now1 → HasCleanDisk now)
        → (HasCleanDisk now1 → (ps : List Piece) → IsSettled ps now → (batch ≡ part at size ps) × IsSettled ps now1) → (HasCleanDisk now1 → LeavesNoMore now now1)
        → ((m : ℕ) × Replays gives s batch t m × (next1 ≡ next + m)) → IsReplaying gives s0 after count first now1 (at + size) t next1
    batch_taken now1 size batch t next1 clean read leaves more = record {
      done = here.done + size;
      at_is = ap (λ n. n + size) here.at_is ∙ add_assoc after here.done size;
      counts = omega (arith, here.counts, more.2);
      keeps = λ up ps had is.
          let before = here.keeps (clean up) ps had is in
          let got = read up ps before.0 in
          let all = batch_replays ps size batch got.0 before.1 before.2 before.3 t next1 more in
          (got.1, all.0, all.1, all.2);
      clean = λ up. here.clean (clean up);
      leaves = λ up db may. here.leaves (clean up) db (leaves up db may);
    }

    -- no batch is left
    pub all_taken : count ≤ at → HasCleanDisk now → (ps : List Piece) → IsSettled ps first → count ≡ length ps → Replays gives s0 (drop after ps) s (next - 1) × IsSettled ps now
    all_taken end up ps had is =
        let it = here.keeps up ps had is in
        let short : length (drop after ps) ≤ here.done = omega (arith, length-drop after ps, is, end, here.at_is) in
        let whole : take here.done (drop after ps) ≡ drop after ps = take_all here.done (drop after ps) short in
        let calls : it.1 ≡ next - 1 = omega (arith, it.3) in
        (subst (λ n. Replays gives s0 (drop after ps) s n) calls (subst (λ (l : List Piece). Replays gives s0 l s it.1) whole it.2), it.0)

    -- a batch that differs
    pub batch_differs : (now1 : State) (size : ℕ) (batch : List Piece) (fault : ReplayFault) → at < count → (HasCleanDisk now1 → HasCleanDisk now)
        → (HasCleanDisk now1 → (ps : List Piece) → IsSettled ps now → (batch ≡ part at size ps) × IsSettled ps now1)
        → Blames gives s batch (at + 1) next fault → HasCleanDisk now1 → (ps : List Piece) → IsSettled ps first → count ≡ length ps → Blames gives s0 (drop after ps) (after + 1) 1 fault
    batch_differs now1 size batch fault low clean read d up ps had is =
        let before = here.keeps (clean up) ps had is in
        let short : here.done ≤ length (drop after ps) = omega (arith, length-drop after ps, is, low, here.at_is) in
        blames ps size batch (read up ps before.0).0 before.1 before.2 before.3 short fault d
