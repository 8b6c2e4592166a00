-- One table of marks tells of every group what a table of its own would.
use Rattle.std.proofs.Common.{◌≡◌, ℕ, ◌+◌, ◌<◌, ◌≤◌, Bool, List, [], ◌∷◌, Result, Ok, Err, refl, ◌∙◌, ap, sym, subst, arith, inl, inr}
use Rattle.std.specs.Prelude.{◌⊎◌, ℤ, Option, Some, None, if◌then◌else◌, true, false, set, get_or, nat_le, length, replicate, ◌*◌}
use Rattle.std.proofs.lemmas.List.{get_or_past, get_or-set_same, get_or-set_other, length-set, set_past, length-replicate, get_or-replicate}
use Rattle.std.proofs.lemmas.Bool.{cases_eq, cases_lt, le-leb}
use Rattle.std.proofs.lemmas.Bool.Decides.{leb_tells}
use Rattle.gd_rules.specs.Limits.{classes}
use Rattle.gd_system.specs.Pipeline.{Pipeline, elements_of, element_number}
use Rattle.gd_text_part.specs.Rows.{◌>>=◌}
use Rattle.gd_text_part.specs.declared.fault.Cause.TheVariants as cause
use Rattle.gd_text_part.specs.declared.fault.TextFault.{TextFault}
use Rattle.gd_text_part.specs.declared.fault.TextFault.TheVariants as fault
use Rattle.gd_text_part.specs.declared.row.Row.{Row}
use Rattle.gd_text_part.specs.declared.row.Row.TheVariants as row
use Rattle.gd_text.specs.Building.{built_from}
use Rattle.gd_text.specs.Prices.{Table, price_step, price_at, given_at, place, prices_from, no_prices}
use Rattle.gd_day.specs.Groups.{checked}
use Rattle.gd_day.specs.Marks.{mark_step, mark_at, AreBefore}

-- a price was given in the group where its mark is one of the group's rows
record Same (first : ℕ) (t : Table) (last : List ℕ) : Type 0 where
  long : length t.given ≡ length last
  each : (k : ℕ) → get_or t.given k false ≡ nat_le first (get_or last k 0)

abbrev BothSame : ℕ → Result Table TextFault → Result (List ℕ) TextFault → Type 0
BothSame first (Ok t) (Ok last) = Same first t last
BothSame first (Ok t) (Err f) = ⊥
BothSame first (Err e) (Ok last) = ⊥
BothSame first (Err e) (Err f) = e ≡ f

-- after one more mark
more : (first n : ℕ) (t u : Table) (last : List ℕ) (k : ℕ) → u.given ≡ set t.given k true → first ≤ n → Same first t last → Same first u (set last k n)
more first n t u last k is h s = record { long = ap length is ∙ length-set t.given k true ∙ s.long ∙ sym (length-set last k n); each = λ j. ap (λ (g : List Bool). get_or g j false) is ∙ at j (cases_eq j k) (cases_lt k (length last)) }
  where
    at : (j : ℕ) → (j ≡ k) ⊎ (j ≡ k → ⊥) → (k < length last) ⊎ (length last ≤ k) → get_or (set t.given k true) j false ≡ nat_le first (get_or (set last k n) j 0)
    at j (inl same) (inl within) =
        ap (λ i. get_or (set t.given k true) i false) same ∙ get_or-set_same t.given k true false (omega (arith, within, s.long))
        ∙ sym (le-leb first n h) ∙ ap (nat_le first) (sym (get_or-set_same last k n 0 within) ∙ ap (λ i. get_or (set last k n) i 0) (sym same))
    at j (inl same) (inr past) =
        ap (λ (g : List Bool). get_or g j false) (set_past t.given k true (omega (arith, past, s.long))) ∙ s.each j ∙ ap (λ (l : List ℕ). nat_le first (get_or l j 0)) (sym (set_past last k n past))
    at j (inr other) w = get_or-set_other t.given k j true false other ∙ s.each j ∙ ap (nat_le first) (sym (get_or-set_other last k j n 0 other))

abbrev with_price : Table → ℕ → ℕ → ℤ → ℤ → Table
with_price t e class word spread = record t { words = set t.words (place e class) word; spreads = set t.spreads (place e class) spread; given = set t.given (place e class) true }

given_same : (first n : ℕ) (t : Table) (last : List ℕ) (e class : ℕ) (word spread : ℤ) → first ≤ n → Same first t last
    → BothSame first (given_at n t e class word spread) (mark_at first n last (Some e) class)
given_same first n t last e class word spread h s = choose (get_or t.given (place e class) false) (nat_le first (get_or last (place e class) 0)) (s.each (place e class))
  where
    choose : (a b : Bool) → a ≡ b
        → BothSame first (if a then Err (fault.Row n cause.Duplicate) else Ok (with_price t e class word spread)) (if b then Err (fault.Row n cause.Duplicate) else Ok (set last (place e class) n))
    choose true true q = refl
    choose false false q = more first n t (with_price t e class word spread) last (place e class) refl h s
    choose true false q = cc
    choose false true q = cc

price_same : (first n : ℕ) (t : Table) (last : List ℕ) (found : Option ℕ) (class : ℕ) (word spread : ℤ) → first ≤ n → Same first t last
    → BothSame first (price_at n t found class word spread) (mark_at first n last found class)
price_same first n t last None class word spread h s = refl
price_same first n t last (Some e) class word spread h s = given_same first n t last e class word spread h s

step_same : (p : Pipeline) (first n : ℕ) (t : Table) (last : List ℕ) (r : Row) → first ≤ n → Same first t last → BothSame first (price_step p n t r) (mark_step p first n last r)
step_same p first n t last (row.Price element class word spread) h s = price_same first n t last (element_number p element) class word spread h s
step_same p first n t last r h s = s

rows_same : (p : Pipeline) (first n : ℕ) (t : Table) (last : List ℕ) (rows : List Row) → first ≤ n → Same first t last
    → checked (built_from (mark_step p first) n last rows) ≡ checked (built_from (price_step p) n t rows)
unfolding built_from
rows_same p first n t last [] h s = refl
rows_same p first n t last (r ∷ rows) h s = go (price_step p n t r) (mark_step p first n last r) (step_same p first n t last r h s) (λ u marks. rows_same p first (n + 1) u marks rows (omega (arith, h)))
  where
    go : (a : Result Table TextFault) (b : Result (List ℕ) TextFault) → BothSame first a b
        → ((u : Table) (marks : List ℕ) → Same first u marks → checked (built_from (mark_step p first) (n + 1) marks rows) ≡ checked (built_from (price_step p) (n + 1) u rows))
        → checked (b >>= λ y. built_from (mark_step p first) (n + 1) y rows) ≡ checked (a >>= λ y. built_from (price_step p) (n + 1) y rows)
    go (Ok u) (Ok marks) e next = next u marks e
    go (Err e) (Err f) q next = ap (λ (x : TextFault). Err x) (sym q)
    go (Ok u) (Err f) e next = absurd e
    go (Err f) (Ok marks) e next = absurd e

-- where no mark is of the group
none_same : (first m : ℕ) (last : List ℕ) → length last ≡ classes * m → AreBefore first last → Same first (no_prices m) last
none_same first m last long before = record { long = length-replicate (classes * m) false ∙ sym long; each = λ k. unset k (cases_lt k (classes * m)) ∙ sym (older k) }
  where
    unset : (k : ℕ) → (k < classes * m) ⊎ (classes * m ≤ k) → get_or (replicate (classes * m) false) k false ≡ false
    unset k (inl within) = get_or-replicate (classes * m) k false false within
    unset k (inr past) = get_or_past (replicate (classes * m) false) k false (omega (arith, past, length-replicate (classes * m) false))

    older : (k : ℕ) → nat_le first (get_or last k 0) ≡ false
    older k = elim (leb_tells first (get_or last k 0)) [ inl is ↦ absurd (omega (arith, is.1, before k)) | inr other ↦ other.0 ]

pub prices_checked : (p : Pipeline) (first : ℕ) (last : List ℕ) (rows : List Row) → length last ≡ classes * length (elements_of p) → AreBefore first last
    → checked (built_from (mark_step p first) first last rows) ≡ checked (prices_from first rows p)
prices_checked p first last rows long before = rows_same p first first (no_prices (length (elements_of p))) last rows (omega arith) (none_same first (length (elements_of p)) last long before)

-- ---- marks stand before the row that comes next

before_more : (n k : ℕ) (last : List ℕ) → AreBefore n last → AreBefore (n + 1) (set last k n)
before_more n k last before j = at (cases_eq j k) (cases_lt k (length last))
  where
    at : (j ≡ k) ⊎ (j ≡ k → ⊥) → (k < length last) ⊎ (length last ≤ k) → get_or (set last k n) j 0 < n + 1
    at (inl same) (inl within) = let e : get_or (set last k n) j 0 ≡ n = ap (λ i. get_or (set last k n) i 0) same ∙ get_or-set_same last k n 0 within in omega (arith, e)
    at (inl same) (inr past) = let e : get_or (set last k n) j 0 ≡ get_or last j 0 = ap (λ (l : List ℕ). get_or l j 0) (set_past last k n past) in omega (arith, e, before j)
    at (inr other) w = let e : get_or (set last k n) j 0 ≡ get_or last j 0 = get_or-set_other last k j n 0 other in omega (arith, e, before j)

later : (n : ℕ) (last : List ℕ) → AreBefore n last → AreBefore (n + 1) last
later n last before k = omega (arith, before k)

abbrev pub IsMarked : ℕ → ℕ → Result (List ℕ) TextFault → Type 0
IsMarked n m (Ok last) = AreBefore n last × (length last ≡ m)
IsMarked n m (Err f) = Unit {0}

mark_marked : (first n : ℕ) (last : List ℕ) (found : Option ℕ) (class : ℕ) → AreBefore n last → IsMarked (n + 1) (length last) (mark_at first n last found class)
mark_marked first n last None class before = tt
mark_marked first n last (Some e) class before = choose (nat_le first (get_or last (place e class) 0))
  where
    choose : (b : Bool) → IsMarked (n + 1) (length last) (if b then Err (fault.Row n cause.Duplicate) else Ok (set last (place e class) n))
    choose true = tt
    choose false = (before_more n (place e class) last before, length-set last (place e class) n)

step_marked : (p : Pipeline) (first n : ℕ) (last : List ℕ) (r : Row) → AreBefore n last → IsMarked (n + 1) (length last) (mark_step p first n last r)
step_marked p first n last (row.Price element class word spread) before = mark_marked first n last (element_number p element) class before
step_marked p first n last r before = (later n last before, refl)

pub rows_marked : (p : Pipeline) (first n : ℕ) (last : List ℕ) (rows : List Row) → AreBefore n last → IsMarked (n + length rows) (length last) (built_from (mark_step p first) n last rows)
unfolding built_from
rows_marked p first n last [] before = let none : n ≡ n + length {A = Row} [] = omega arith in (subst (λ (k : ℕ). AreBefore k last) none before, refl)
rows_marked p first n last (r ∷ rows) before = go (mark_step p first n last r) (step_marked p first n last r before) (λ marks. rows_marked p first (n + 1) marks rows)
  where
    go : (o : Result (List ℕ) TextFault) → IsMarked (n + 1) (length last) o
        → ((marks : List ℕ) → AreBefore (n + 1) marks → IsMarked (n + 1 + length rows) (length marks) (built_from (mark_step p first) (n + 1) marks rows))
        → IsMarked (n + length (r ∷ rows)) (length last) (o >>= λ y. built_from (mark_step p first) (n + 1) y rows)
    go (Err f) m next = tt
    go (Ok marks) m next =
        let count : n + 1 + length rows ≡ n + length (r ∷ rows) = omega arith in
        let long : length marks ≡ length last = m.1 in
        let built : Result (List ℕ) TextFault = built_from (mark_step p first) (n + 1) marks rows in
        subst (λ (k : ℕ). IsMarked k (length last) built) count (subst (λ (k : ℕ). IsMarked (n + 1 + length rows) k built) long (next marks m.0))
