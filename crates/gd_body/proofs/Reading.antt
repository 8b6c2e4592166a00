-- What rows say, one value after the other.
use Rattle.std.specs.Prelude.{◌⊎◌}
use Rattle.std.proofs.Common.{◌≡◌, ◌≢◌, ◌↔◌, ℕ, ℤ, ◌<◌, Bool, false, IsTrue, List, get_or, Some, Result, Ok, Err, sym, subst, ap, ap₂, ◌∙◌, inl, inr}
use Rattle.std.proofs.lemmas.List.FromFn.{fill_by_all}
use Rattle.std.proofs.lemmas.Option.{slice_get-get_or, same_Some}
use Rattle.gd_cost.specs.Made.{list_of, first_of, second_of}
use Rattle.gd_cost.specs.declared.lex.Lex.{Lex}
use Rattle.gd_cost.specs.declared.pair.Pair.{Pair}
use Rattle.gd_system.specs.Pipeline.{Pipeline}
use Rattle.gd_question.specs.Posing.{Posed}
use Rattle.gd_board.specs.declared.posting.Posting.{Posting}
use Rattle.gd_text_part.specs.Rows.{◌>>=◌}
use Rattle.gd_text_part.specs.declared.fault.TextFault.{TextFault}
use Rattle.gd_text_part.specs.declared.fault.TextFault.TheVariants as fault
use Rattle.gd_text_part.specs.declared.row.Row.{Row}
use Rattle.gd_text.specs.Prices.{Table, eight, prices_of, ArePrices}
use Rattle.gd_text.specs.Values.{asked_of}
use Rattle.gd_body.specs.Body.{price_in, prices_in, bumped_of, posting_about, tariffs_of, posting_priced, posting_of, posting_in}
use Rattle.gd_body.specs.Rows.{body_text}

abbrev of_words : List ℤ → List ℤ → Pair (Lex 8) (Lex 8)
of_words words spreads = record { first = record { words = words }; second = record { words = spreads } }

-- a price is its words
same_price : (p : Pair (Lex 8) (Lex 8)) (words spreads : List ℤ) → list_of (first_of p) ≡ words → list_of (second_of p) ≡ spreads
    → p ≡ of_words words spreads
same_price p words spreads w s =
    ap₂ of_words w s

-- a table has one list of prices
pub prices_are : (t : Table) (prices : List (Pair (Lex 8) (Lex 8))) → ArePrices t prices → prices ≡ prices_in t
prices_are t prices are =
    fill_by_all (price_in t) prices t.elements (price_in t 0) are.long
    (λ k h.
    let held = are.each k (get_or prices k (price_in t 0)) (slice_get-get_or prices k (price_in t 0) (subst (λ n. k < n) (sym are.long) h)) in
    same_price (get_or prices k (price_in t 0)) (eight t.words k) (eight t.spreads k) held.0 held.1)

-- what a value under another makes, once that one is known
pub tariffs_refused : (f : TextFault) (rows : List Row) (p : Pipeline) → (f ≡ fault.OutOfMemory) ⊎ (prices_of rows p ≡ Err f) → (f ≡ fault.OutOfMemory) ⊎ (tariffs_of rows p ≡ Err f)
tariffs_refused f rows p (inl m) = inl m
tariffs_refused f rows p (inr e) = inr (ap (λ (o : Result Table TextFault). o >>= λ t. Ok (prices_in t)) e)

pub tariffs_told : (rows : List Row) (p : Pipeline) (t : Table) (prices : List (Pair (Lex 8) (Lex 8))) → prices_of rows p ≡ Ok t → ArePrices t prices → tariffs_of rows p ≡ Ok prices
tariffs_told rows p t prices e are =
    ap (λ (o : Result Table TextFault). o >>= λ t. Ok (prices_in t)) e ∙ ap (λ (l : List (Pair (Lex 8) (Lex 8))). Ok l) (sym (prices_are t prices are))

module _ (rows : List Row) (q : Posed) (schedule : List ℕ) (asked : asked_of rows ≡ Ok (q, schedule)) where
  under : posting_of rows ≡ posting_priced rows (q, schedule)
  under = ap (λ (o : Result (Posed × List ℕ) TextFault). o >>= posting_priced rows) asked

  pub posting_refused : (p : Pipeline) (f : TextFault) → p ≡ q.pipeline → (f ≡ fault.OutOfMemory) ⊎ (tariffs_of rows p ≡ Err f) → (f ≡ fault.OutOfMemory) ⊎ (posting_of rows ≡ Err f)
  posting_refused p f is (inl m) = inl m
  posting_refused p f is (inr e) = inr (under ∙ ap (λ (o : Result (List (Pair (Lex 8) (Lex 8))) TextFault). o >>= λ prices. Ok (posting_about q schedule prices (bumped_of rows))) (sym (ap (tariffs_of rows) is) ∙ e))

  pub posting_told : (p : Pipeline) (prices : List (Pair (Lex 8) (Lex 8))) (bumped : List (ℕ × ℕ)) (book : List ℕ) (cycle round : ℕ) → p ≡ q.pipeline → tariffs_of rows p ≡ Ok prices → bumped ≡ bumped_of rows
      → book ≡ q.book → cycle ≡ q.cycle → round ≡ q.round
      → posting_of rows ≡ Ok (record { book = book; cycle = cycle; round = round; question = q; schedule = schedule; prices = prices; bumped = bumped })
  posting_told p prices bumped book cycle round is e taken b c r =
      let told : posting_of rows ≡ Ok (posting_about q schedule prices (bumped_of rows)) = under ∙ ap (λ (o : Result (List (Pair (Lex 8) (Lex 8))) TextFault). o >>= λ prices. Ok (posting_about q schedule prices (bumped_of rows))) (sym (ap (tariffs_of rows) is) ∙ e) in
      rw (b, c, r, taken) told

-- a text that says another posting does not say this one
pub not_said : (p back : Posting) (text : List ℕ) (same : Bool) → text ≡ body_text p → posting_in text ≡ Some back → (IsTrue same ↔ (p ≡ back)) → same ≡ false
    → posting_in (body_text p) ≢ Some p
not_said p back text same written said tells differ = λ (h : posting_in (body_text p) ≡ Some p).
    let right : IsTrue same = tells.1 (same_Some p back (sym h ∙ ap posting_in (sym written) ∙ said)) in
    cc
