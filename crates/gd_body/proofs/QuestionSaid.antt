-- The rows of a question, and of what is taken for it, say what they are.
use Rattle.std.proofs.Common.{ℕ, ℤ, pos, zero, suc, ◌+◌, ◌<◌, ◌≤◌, ◌==◌, ◌&&◌, nat_lt, Bool, true, false, List, [], ◌∷◌, length, get_or, Option, Some, None, All, sym, subst, if◌then◌else◌, arith, inl, inr}
use Rattle.std.specs.Prelude.{unsigned_abs, IfSome}
use Rattle.std.specs.List.{AllZip}
use Rattle.std.proofs.lemmas.Bool.{cases_lt}
use Rattle.std.proofs.lemmas.List.Elements.{All-head, All-tail}
use Rattle.std.proofs.lemmas.List.{get_or_past}
use Rattle.gd_rules.specs.Limits.{classes, most_lines}
use Rattle.gd_rules.specs.Question as rules
use Rattle.gd_rules.specs.Question.Element.{Segment as segment, Receipt as receipt, Delivery as delivery, Pool as pool}
use Rattle.gd_cost.specs.Parts.{class_words}
use Rattle.gd_cost.specs.declared.lex.Lex.{Lex}
use Rattle.gd_cost.specs.declared.pair.Pair.{Pair}
use Rattle.gd_system.specs.Pipeline.{elements_of, capacity_of}
use Rattle.gd_system.specs.Route.{element_at}
use Rattle.gd_question.specs.InForce.{in_force}
use Rattle.gd_question.specs.Posing.{Posed}
use Rattle.gd_question.specs.InForce.{with_limit}
use Rattle.gd_text_part.specs.declared.row.Row.{Row}
use Rattle.gd_body.specs.Publishable.{IsName, IsQuantity, IsShort, IsPosedQuestion, IsShortPrice}
use Rattle.gd_body.specs.Rows.{Fields, element_name, capacity_change, capacity_row, capacity_rows, line_row, line_rows, level_row, element_rows, price_rows, bumped_rows}
use Rattle.gd_body.proofs.Said.{capacity_said, capacity_at, capacities_said, line_said, lines_said, level_said, price_said, prices_said, bumped_said}
use Rattle.gd_body.proofs.RowGroups.{zips_map, zips_ranges, zips_append}
use Rattle.gd_body.proofs.RowsStand.{Says, capacity_says, line_says, price_says, bumped_says}
use Rattle.gd_body.proofs.PartsSaid.{element_named}
use Rattle.gd_body.proofs.PosedLines.{IsPosedLine, elements_long, posed_lines}

abbrev HasQuantity : rules.Element → Type 0
HasQuantity x = IfSome (capacity_of x) IsQuantity

limit_small : (x : rules.Element) (limit : ℕ) → IsQuantity limit → HasQuantity (with_limit x limit)
limit_small (segment from to capacity) limit small = small
limit_small (receipt place capacity) limit small = small
limit_small (delivery place capacity) limit small = small
limit_small (pool place) limit small = tt

forced_small : (elements : List rules.Element) (limits : List ℕ) → All HasQuantity elements → All IsQuantity limits → (e : ℕ) (d : rules.Element) → e < length (in_force elements limits) → HasQuantity (get_or (in_force elements limits) e d)
forced_small [] limits all small e d low = absurd (omega (arith, low))
forced_small (x ∷ elements) [] all small e d low = all e d low
forced_small (x ∷ elements) (limit ∷ limits) all small zero d low = limit_small x limit (All-head IsQuantity limit limits small)
forced_small (x ∷ elements) (limit ∷ limits) all small (suc e) d low =
    forced_small elements limits (All-tail HasQuantity x elements all) (All-tail IsQuantity limit limits small) e d (omega (arith, low))

unless : (stage : ℕ) (none : Bool) (fields : Fields) (r : Row) → Says true stage fields r → AllZip (Says true stage) (if none then [] else fields ∷ []) (if none then [] else r ∷ [])
unless stage true fields r says = tt
unless stage false fields r says = (says, tt)

change_says : (name : List ℕ) (own limit : Option ℕ) → IsName name → IfSome limit IsQuantity → AllZip (Says true 4) (capacity_change name own limit) (capacity_said name own limit)
change_says name None limit n small = tt
change_says name (Some own) None n small = tt
change_says name (Some own) (Some limit) n small = unless 4 (own == limit) _ _ (capacity_says name limit n small)

module _ (q : Posed) (m : IsPosedQuestion q) where
  forced_at : (e : ℕ) → e < length q.asked.elements → HasQuantity (rules.element q.asked e)
  forced_at e low =
      subst (λ (l : List rules.Element). HasQuantity (get_or l e (pool 0))) (sym m.elements)
      (forced_small (elements_of q.pipeline) m.limits m.pipeline.capacities m.small e (pool 0) (subst (λ (l : List rules.Element). e < length l) m.elements low))

  pub capacities_say : AllZip (Says true 4) (capacity_rows q) (capacities_said q)
  capacities_say = zips_ranges (Says true 4) (capacity_row q) (capacity_at q) (length q.asked.elements) 0
      (λ e low. let in' : e < length q.asked.elements = omega (arith, low) in
      change_says (element_name q.pipeline e) (capacity_of (element_at q.pipeline e)) (capacity_of (rules.element q.asked e))
      (element_named q.pipeline m.pipeline e (omega (arith, elements_long q m))) (forced_at e in'))

  pub lines_say : AllZip (Says true 5) (line_rows q) (lines_said q)
  lines_say = zips_map (Says true 5) (IsPosedLine q.pipeline) (line_row q.pipeline) (line_said q.pipeline)
      (λ l h. line_says (element_name q.pipeline l.origin) (element_name q.pipeline l.dest) l.class l.floor l.ceiling
      (named l.origin (subst (λ (x : rules.Line). x.origin < length (elements_of q.pipeline)) (sym h.is) h.are.origin_known))
      (named l.dest (subst (λ (x : rules.Line). x.dest < length (elements_of q.pipeline)) (sym h.is) h.are.dest_known))
      h.classed.1 (let s = h.small in let b = h.bounds in omega arith) h.small)
      q.asked.lines (posed_lines q m)
    where
      named : (e : ℕ) → e < length (elements_of q.pipeline) → IsName (element_name q.pipeline e)
      named = element_named q.pipeline m.pipeline

-- the words of a price
short_zero : IsShort (pos 0)
short_zero = omega arith

short_word : (words : List ℤ) (k : ℕ) → All IsShort words → IsShort (get_or words k (pos 0))
short_word words k all = elim (cases_lt k (length words)) [
  | inl low ↦ all k (pos 0) low
  | inr past ↦ subst IsShort (sym (get_or_past words k (pos 0) past)) short_zero
]

short_first : (v : Bool) (z : ℤ) → IsShort z → IsShort (if v then z else pos 0)
short_first true z small = small
short_first false z small = short_zero

level_says : (name : List ℕ) (level : ℕ) (word spread : ℤ) → IsName name → (1 ≤ level) × (level ≤ classes) → IsShort word → IsShort spread
    → AllZip (Says true 7) (level_row name level word spread) (level_said name level word spread)
level_says name level word spread n l a b = unless 7 ((unsigned_abs word == 0) && (unsigned_abs spread == 0)) _ _ (price_says name level word spread n l a b)

price_says_all : (name : List ℕ) (price : Pair (Lex 8) (Lex 8)) → IsName name → IsShortPrice price → AllZip (Says true 7) (element_rows name (class_words price)) (price_said name (class_words price))
price_says_all name price n m =
    let words : (ℕ → ℤ) × (ℕ → ℤ) = class_words price in
    zips_ranges (Says true 7) (λ k. level_row name (k + 1) (words.0 k) (words.1 k)) (λ k. level_said name (k + 1) (words.0 k) (words.1 k)) classes 0
    (λ k low. level_says name (k + 1) (words.0 k) (words.1 k) n (omega arith, omega (arith, low))
    (short_first (nat_lt k 8) _ (short_word price.first.words k m.short)) (short_first (nat_lt k 8) _ (short_word price.second.words k m.short_spreads)))

pub prices_say : (names : List (List ℕ)) (prices : List (Pair (Lex 8) (Lex 8))) → All IsName names → All IsShortPrice prices → AllZip (Says true 7) (price_rows names prices) (prices_said names prices)
prices_say [] prices n m = tt
prices_say (name ∷ names) [] n m = tt
prices_say (name ∷ names) (price ∷ prices) n m =
    zips_append (Says true 7) (element_rows name (class_words price)) (price_rows names prices) (price_said name (class_words price)) (prices_said names prices)
    (price_says_all name price (All-head IsName name names n) (All-head IsShortPrice price prices m))
    (prices_say names prices (All-tail IsName name names n) (All-tail IsShortPrice price prices m))

pub bumped_say : (bumped : List (ℕ × ℕ)) (count : ℕ) → count ≤ most_lines → All (λ b. b.0 < count) bumped → All (λ b. IsQuantity b.1) bumped → AllZip (Says true 8) (bumped_rows bumped) (bumped_said bumped)
bumped_say [] count few lines small = tt
bumped_say (b ∷ bumped) count few lines small =
    let low = All-head (λ x. x.0 < count) b bumped lines in (
      bumped_says b.0 b.1 (omega (arith, low, few)) (All-head (λ x. IsQuantity x.1) b bumped small),
      bumped_say bumped count few (All-tail (λ x. x.0 < count) b bumped lines) (All-tail (λ x. IsQuantity x.1) b bumped small),
    )
