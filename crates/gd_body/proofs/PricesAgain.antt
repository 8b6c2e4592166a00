-- The rows that say a posting give its prices.
use Rattle.std.proofs.Common.{◌≡◌, ℕ, ℤ, pos, zero, suc, ◌+◌, ◌*◌, ◌<◌, ◌≤◌, ◌==◌, ◌&&◌, nat_lt, Bool, true, false, List, [], ◌∷◌, ◌++◌, length, get_or, set, drop, replicate, Some, Result, Ok, Err, All, refl, sym, ap, ap₂, subst, ◌∙◌, if◌then◌else◌, arith, inl, inr}
use Rattle.std.specs.Prelude.{unsigned_abs}
use Rattle.std.specs.List.{flat_map, range_with_len}
use Rattle.std.proofs.lemmas.Bool.Decides.{nat_tests}
use Rattle.std.proofs.lemmas.Bool.{cases_eq, cases_lt}
use Rattle.std.proofs.lemmas.List.{append_assoc, drop_more, drop_all, length-set, get_or-set_same, get_or-set_other, get_or-replicate, get_or_past, length-replicate}
use Rattle.std.proofs.lemmas.List.FromFn.{fill_by_all}
use Rattle.gd_cost.specs.Parts.{class_words}
use Rattle.gd_cost.specs.declared.lex.Lex.{Lex}
use Rattle.gd_cost.specs.declared.pair.Pair.{Pair}
use Rattle.gd_system.specs.Pipeline.{Pipeline, element_number}
use Rattle.gd_text_part.specs.declared.fault.Cause.TheVariants as cause
use Rattle.gd_text_part.specs.declared.fault.TextFault.{TextFault}
use Rattle.gd_text_part.specs.declared.fault.TextFault.TheVariants as fault
use Rattle.gd_text_part.specs.declared.row.Row.{Row}
use Rattle.gd_text_part.specs.declared.row.Row.TheVariants as row
use Rattle.gd_text.specs.Building.{built_from}
use Rattle.gd_text.specs.Prices.{Table, no_prices, place, price_at, price_step, word_at, eight}
use Rattle.gd_body.specs.Body.{price_in, prices_in}
use Rattle.gd_body.specs.Publishable.{IsShortPrice}
use Rattle.gd_body.proofs.Said.{level_said, prices_said}
use Rattle.gd_body.proofs.Passing.{built_on}
use Rattle.gd_body.proofs.RowsRead.{zero_only}

abbrev pub Price : Type 0
Price = Pair (Lex 8) (Lex 8)

pub no_price : Price
no_price = record { first = record { words = [] }; second = record { words = [] } }

abbrev pub word : List ℤ → ℕ → ℤ
word words k = get_or words k (pos 0)

-- the words so far, and none from a place on
pub record Words (count from : ℕ) (given : ℕ → ℕ → ℤ) (words : List ℤ) : Type 0 where
  pub long : length words ≡ 8 * count
  pub so_far : (e k : ℕ) → e < count → k < 8 → 8 * e + k < from → word words (8 * e + k) ≡ given e k
  pub none : (i : ℕ) → from ≤ i → word words i ≡ pos 0

-- one word more
words_more : (count e k from next : ℕ) (given : ℕ → ℕ → ℤ) (words : List ℤ) → e < count → k < 8 → from ≡ 8 * e + k → next ≡ from + 1 → Words count from given words → Words count next given (set words from (given e k))
words_more count e k from next given words a b is after w = record {
  long = length-set words from (given e k) ∙ w.long;
  so_far = λ j c low small before. elim (cases_eq (8 * j + c) from) [
    | inl same ↦
        let je : j ≡ e = omega (arith, same, is, small, b) in
        let ck : c ≡ k = omega (arith, same, is, small, b) in
        ap (word (set words from (given e k))) same ∙ get_or-set_same words from (given e k) (pos 0) (omega (arith, w.long, is, a, b)) ∙ sym (ap₂ given je ck)
    | inr other ↦ get_or-set_other words from (8 * j + c) (given e k) (pos 0) other ∙ w.so_far j c low small (omega (arith, before, after, other))
  ];
  none = λ i above. get_or-set_other words from i (given e k) (pos 0) (omega (arith, above, after)) ∙ w.none i (omega (arith, above, after));
}

-- a word that is 0 need not be given
words_skipped : (count e k from next : ℕ) (given : ℕ → ℕ → ℤ) (words : List ℤ) → k < 8 → from ≡ 8 * e + k → next ≡ from + 1 → given e k ≡ pos 0 → Words count from given words → Words count next given words
words_skipped count e k from next given words b is after none w = record {
  long = w.long;
  so_far = λ j c low small before. elim (cases_eq (8 * j + c) from) [
    | inl same ↦
        let je : j ≡ e = omega (arith, same, is, small, b) in
        let ck : c ≡ k = omega (arith, same, is, small, b) in
        w.none (8 * j + c) (omega (arith, same)) ∙ sym (ap₂ given je ck ∙ none)
    | inr other ↦ w.so_far j c low small (omega (arith, before, after, other))
  ];
  none = λ i above. w.none i (omega (arith, above, after));
}

-- a list of eight words, word by word
eight_words : (words : List ℤ) → length words ≡ 8
    → words ≡ word words 0 ∷ word words 1 ∷ word words 2 ∷ word words 3 ∷ word words 4 ∷ word words 5 ∷ word words 6 ∷ word words 7 ∷ []
eight_words [] l = absurd (omega (arith, l))
eight_words (a ∷ []) l = absurd (omega (arith, l))
eight_words (a ∷ b ∷ []) l = absurd (omega (arith, l))
eight_words (a ∷ b ∷ c ∷ []) l = absurd (omega (arith, l))
eight_words (a ∷ b ∷ c ∷ d ∷ []) l = absurd (omega (arith, l))
eight_words (a ∷ b ∷ c ∷ d ∷ e ∷ []) l = absurd (omega (arith, l))
eight_words (a ∷ b ∷ c ∷ d ∷ e ∷ f ∷ []) l = absurd (omega (arith, l))
eight_words (a ∷ b ∷ c ∷ d ∷ e ∷ f ∷ g ∷ []) l = absurd (omega (arith, l))
eight_words (a ∷ b ∷ c ∷ d ∷ e ∷ f ∷ g ∷ h ∷ []) l = refl
eight_words (a ∷ b ∷ c ∷ d ∷ e ∷ f ∷ g ∷ h ∷ i ∷ rest) l = absurd (omega (arith, l))

abbrev of_words : List ℤ → List ℤ → Price
of_words words spreads = record { first = record { words = words }; second = record { words = spreads } }

-- one after the other
abbrev eight_of : (ℕ → ℤ) → List ℤ
eight_of f = f 0 ∷ f 1 ∷ f 2 ∷ f 3 ∷ f 4 ∷ f 5 ∷ f 6 ∷ f 7 ∷ []

eight_same : (f g : ℕ → ℤ) → ((k : ℕ) → k < 8 → f k ≡ g k) → eight_of f ≡ eight_of g
eight_same f g h =
    ap₂ (λ a (l : List ℤ). a ∷ l) (h 0 (omega arith)) (ap₂ (λ a (l : List ℤ). a ∷ l) (h 1 (omega arith)) (ap₂ (λ a (l : List ℤ). a ∷ l) (h 2 (omega arith))
    (ap₂ (λ a (l : List ℤ). a ∷ l) (h 3 (omega arith)) (ap₂ (λ a (l : List ℤ). a ∷ l) (h 4 (omega arith)) (ap₂ (λ a (l : List ℤ). a ∷ l) (h 5 (omega arith))
    (ap₂ (λ a (l : List ℤ). a ∷ l) (h 6 (omega arith)) (ap (λ a. a ∷ []) (h 7 (omega arith)))))))))

eight_is : (words : List ℤ) (e : ℕ) → eight words e ≡ eight_of (λ k. word words (8 * e + k))
eight_is words e = let first : 8 * e ≡ 8 * e + 0 = omega arith in
    ap (λ i. word words i ∷ word_at words e 1 ∷ word_at words e 2 ∷ word_at words e 3 ∷ word_at words e 4 ∷ word_at words e 5 ∷ word_at words e 6 ∷ word_at words e 7 ∷ []) first

-- a word within a price
word_is : (words : List ℤ) (k : ℕ) → k < 8 → (if nat_lt k 8 then word words k else pos 0) ≡ word words k
word_is words k low = let yes : nat_lt k 8 ≡ true = grind (arith, nat_tests) in rw yes refl

abbrev given_in : ℕ → Table → ℕ → ℤ → ℤ → Result Table TextFault
given_in n t i w s =
    if get_or t.given i false then Err (fault.Row n cause.Duplicate)
    else Ok (record t { words = set t.words i w; spreads = set t.spreads i s; given = set t.given i true })

module _ (p : Pipeline) (names : List (List ℕ)) (prices : List Price) (numbered : (e : ℕ) → e < length names → element_number p (get_or names e []) ≡ Some e) where
  abbrev pub first_word : ℕ → ℕ → ℤ
  first_word e k = word (get_or prices e no_price).first.words k

  abbrev pub second_word : ℕ → ℕ → ℤ
  second_word e k = word (get_or prices e no_price).second.words k

  -- a table with the words before a place
  pub record IsTable (from : ℕ) (t : Table) : Type 0 where
    pub elements : t.elements ≡ length names
    pub words : Words (length names) from first_word t.words
    pub spreads : Words (length names) from second_word t.spreads
    pub free : (i : ℕ) → from ≤ i → get_or t.given i false ≡ false

  -- rows that bring the table to a place
  pub record Brings (next n : ℕ) (t : Table) (rows : List Row) : Type 0 where
    pub table : Table
    pub number : ℕ
    pub same : (rest : List Row) → built_from (price_step p) n t (rows ++ rest) ≡ built_from (price_step p) number table rest
    pub is : IsTable next table

  brings_none : (from next n : ℕ) (t : Table) (rows : List Row) → rows ≡ [] → from ≡ next → IsTable from t → Brings next n t rows
  brings_none from next n t rows none same is = record { table = t; number = n; same = λ rest. ap (λ l. built_from (price_step p) n t (l ++ rest)) none; is = subst (λ i. IsTable i t) same is }

  brings_append : (next mid n : ℕ) (t : Table) (a b : List Row) → (one : Brings mid n t a) → Brings next one.number one.table b → Brings next n t (a ++ b)
  brings_append next mid n t a b one two = record {
    table = two.table;
    number = two.number;
    same = λ rest. ap (built_from (price_step p) n t) (append_assoc a b rest) ∙ one.same (b ++ rest) ∙ two.same rest;
    is = two.is;
  }

  -- the row of one level
  step_is : (n e k : ℕ) (w s : ℤ) (t : Table) → e < length names → IsTable (8 * e + k) t
      → price_step p n t (row.Price (get_or names e []) (k + 1) w s) ≡ Ok (record t { words = set t.words (8 * e + k) w; spreads = set t.spreads (8 * e + k) s; given = set t.given (8 * e + k) true })
  step_is n e k w s t low is =
      let at : place e (k + 1) ≡ 8 * e + k = omega arith in
      ap (λ o. price_at n t o (k + 1) w s) (numbered e low)
      ∙ ap (λ i. given_in n t i w s) at
      ∙ ap (λ v. if v then Err (fault.Row n cause.Duplicate) else Ok (record t { words = set t.words (8 * e + k) w; spreads = set t.spreads (8 * e + k) s; given = set t.given (8 * e + k) true })) (is.free (8 * e + k) (omega arith))

  level_on : (n e k : ℕ) (w s : ℤ) (t : Table) → e < length names → k < 8 → w ≡ first_word e k → s ≡ second_word e k → IsTable (8 * e + k) t
      → Brings (8 * e + k + 1) n t (level_said (get_or names e []) (k + 1) w s)
  level_on n e k w s t low small wi si is = go (unsigned_abs w == 0) (unsigned_abs s == 0) refl refl
    where
      given : (a b : Bool) → (unsigned_abs w == 0) ≡ a → (unsigned_abs s == 0) ≡ b → (a && b) ≡ false → Brings (8 * e + k + 1) n t (level_said (get_or names e []) (k + 1) w s)
      given a b ea eb some = record {
        table = record t { words = set t.words (8 * e + k) w; spreads = set t.spreads (8 * e + k) s; given = set t.given (8 * e + k) true };
        number = n + 1;
        same = λ rest. ap (λ v. built_from (price_step p) n t ((if v then [] else row.Price (get_or names e []) (k + 1) w s ∷ []) ++ rest)) (ap₂ (λ x y. x && y) ea eb ∙ some)
            ∙ built_on (price_step p) n t _ (row.Price (get_or names e []) (k + 1) w s) rest (step_is n e k w s t low is);
        is = record {
          elements = is.elements;
          words = subst (λ (x : ℤ). Words (length names) (8 * e + k + 1) first_word (set t.words (8 * e + k) x)) (sym wi) (words_more (length names) e k (8 * e + k) (8 * e + k + 1) first_word t.words low small refl refl is.words);
          spreads = subst (λ (x : ℤ). Words (length names) (8 * e + k + 1) second_word (set t.spreads (8 * e + k) x)) (sym si) (words_more (length names) e k (8 * e + k) (8 * e + k + 1) second_word t.spreads low small refl refl is.spreads);
          free = λ i above. get_or-set_other t.given (8 * e + k) i true false (omega (arith, above)) ∙ is.free i (omega (arith, above));
        };
      }

      go : (a b : Bool) → (unsigned_abs w == 0) ≡ a → (unsigned_abs s == 0) ≡ b → Brings (8 * e + k + 1) n t (level_said (get_or names e []) (k + 1) w s)
      go true true ea eb =
          let wz : unsigned_abs w ≡ 0 = grind (arith, nat_tests) in
          let sz : unsigned_abs s ≡ 0 = grind (arith, nat_tests) in
          brings_none (8 * e + k + 1) (8 * e + k + 1) n t _ (ap (λ v. if v then [] else row.Price (get_or names e []) (k + 1) w s ∷ []) (ap₂ (λ x y. x && y) ea eb)) refl (record {
            elements = is.elements;
            words = words_skipped (length names) e k (8 * e + k) (8 * e + k + 1) first_word t.words small refl refl (sym wi ∙ zero_only w wz) is.words;
            spreads = words_skipped (length names) e k (8 * e + k) (8 * e + k + 1) second_word t.spreads small refl refl (sym si ∙ zero_only s sz) is.spreads;
            free = λ i above. is.free i (omega (arith, above));
          })
      go true false ea eb = given true false ea eb refl
      go false b ea eb = given false b ea eb refl

  levels_on : (left k n e : ℕ) (t : Table) → k + left ≡ 8 → e < length names → IsTable (8 * e + k) t
      → Brings (8 * e + 8) n t (flat_map (λ c. level_said (get_or names e []) (c + 1) ((class_words (get_or prices e no_price)).0 c) ((class_words (get_or prices e no_price)).1 c)) (range_with_len k left))
  levels_on zero k n e t all low is = brings_none (8 * e + k) (8 * e + 8) n t [] refl (omega (arith, all)) is
  levels_on (suc left) k n e t all low is =
      let price : Price = get_or prices e no_price in
      let small : k < 8 = omega (arith, all) in
      let one = level_on n e k ((class_words (get_or prices e no_price)).0 k) ((class_words (get_or prices e no_price)).1 k) t low small
      (word_is (get_or prices e no_price).first.words k small) (word_is (get_or prices e no_price).second.words k small) is in
      let next : 8 * e + k + 1 ≡ 8 * e + (k + 1) = omega arith in
      brings_append (8 * e + 8) (8 * e + k + 1) n t _ _ one (levels_on left (k + 1) one.number e one.table (omega (arith, all)) low (subst (λ i. IsTable i one.table) next one.is))

  prices_on : (left e n : ℕ) (t : Table) → e + left ≡ length names → length prices ≡ length names → IsTable (8 * e) t → Brings (8 * length names) n t (prices_said (drop e names) (drop e prices))
  prices_on zero e n t all long is =
      brings_none (8 * e) (8 * length names) n t _ (ap (λ l. prices_said l (drop e prices)) (drop_all e names (omega (arith, all)))) (omega (arith, all)) is
  prices_on (suc left) e n t all long is =
      let low : e < length names = omega (arith, all) in
      let first : 8 * e ≡ 8 * e + 0 = omega arith in
      let next : 8 * e + 8 ≡ 8 * (e + 1) = omega arith in
      let one = levels_on 8 0 n e t refl low (subst (λ i. IsTable i t) first is) in
      subst (Brings (8 * length names) n t)
      (sym (ap₂ prices_said (drop_more names e [] low) (drop_more prices e no_price (omega (arith, long, low)))))
      (brings_append (8 * length names) (8 * e + 8) n t _ _ one (prices_on left (e + 1) one.number one.table (omega (arith, all)) long (subst (λ i. IsTable i one.table) next one.is)))

  blank : {X : Type 0} (n i : ℕ) (x : X) → get_or (replicate n x) i x ≡ x
  blank n i x = elim (cases_lt i n) [
    | inl low ↦ get_or-replicate n i x x low
    | inr past ↦ get_or_past (replicate n x) i x (omega (arith, length-replicate n x, past))
  ]

  none_given : (n : ℕ) → n ≡ length names → IsTable 0 (no_prices n)
  none_given n is = record {
    elements = is;
    words = record { long = length-replicate (8 * n) (pos 0) ∙ ap (λ i. 8 * i) is; so_far = λ e k low small before. absurd (omega (arith, before)); none = λ i above. blank (8 * n) i (pos 0) };
    spreads = record { long = length-replicate (8 * n) (pos 0) ∙ ap (λ i. 8 * i) is; so_far = λ e k low small before. absurd (omega (arith, before)); none = λ i above. blank (8 * n) i (pos 0) };
    free = λ i above. blank (8 * n) i false;
  }

  -- all prices, from none
  pub prices_given : (n count : ℕ) → count ≡ length names → length prices ≡ length names → Brings (8 * length names) n (no_prices count) (prices_said names prices)
  prices_given n count is long = prices_on (length names) 0 n (no_prices count) (omega arith) long (none_given count is)

  held : (from : ℕ) (given : ℕ → ℕ → ℤ) (words own : List ℤ) (e : ℕ) → e < length names → 8 * length names ≤ from → ((k : ℕ) → given e k ≡ word own k) → length own ≡ 8 → Words (length names) from given words → own ≡ eight words e
  held from given words own e low all is long w =
      eight_words own long ∙ sym (eight_is words e ∙ eight_same (λ k. word words (8 * e + k)) (word own) (λ k small. w.so_far e k low small (omega (arith, low, small, all)) ∙ is k))

  -- and they are the prices in the table
  pub prices_held : (t : Table) → IsTable (8 * length names) t → length prices ≡ length names → All IsShortPrice prices → prices ≡ prices_in t
  prices_held t is long made =
      fill_by_all (price_in t) prices t.elements no_price (long ∙ sym is.elements) (λ e low.
      let in' : e < length names = omega (arith, low, is.elements) in
      let m : IsShortPrice (get_or prices e no_price) = made e no_price (omega (arith, in', long)) in
      ap₂ of_words
      (held (8 * length names) first_word t.words (get_or prices e no_price).first.words e in' (omega arith) (λ k. refl) m.words is.words)
      (held (8 * length names) second_word t.spreads (get_or prices e no_price).second.words e in' (omega arith) (λ k. refl) m.spreads is.spreads))
