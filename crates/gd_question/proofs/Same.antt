-- What two questions have in common shows in what is asked.
use Rattle.std.proofs.Common.{◌≡◌, ℕ, suc, ◌+◌, ◌<◌, ◌≤◌, List, [], ◌∷◌, get_or, map, length, refl, sym, ap, ap₂, ◌∙◌, subst, arith, Some, IsSome, ◌&&◌, nat_eq}
use Rattle.std.specs.Bool.{Decides}
use Rattle.std.proofs.lemmas.Bool.Decides.{Decides-eqb}
use Rattle.gd_rules.specs.Question as rules
use Rattle.gd_rules.specs.Question.Element.{Pool}
use Rattle.gd_rules.specs.Question.{place_of}
use Rattle.gd_system.specs.Pipeline.{Pipeline, elements_of}
use Rattle.gd_system.specs.Route.{element_at}
use Rattle.gd_system.specs.declared.part.Ends.{Ends}
use Rattle.gd_system.proofs.Same.{both, same_ends, ends_decided}
use Rattle.gd_question.specs.Posing.{Posed}
use Rattle.gd_question.specs.InForce.{with_limit, in_force}
use Rattle.gd_question.specs.Known.{limit_of}
use Rattle.gd_question.specs.Rows.{line_of}
use Rattle.gd_question.specs.Stored.{IsRow}
use Rattle.gd_question.specs.Inside.{posed_of, IsSound}
use Rattle.gd_question.specs.declared.question.Row.{Row}
use Rattle.gd_question.specs.declared.question.Question.TheInside.{Inside}
use Rattle.gd_question.specs.contracts.question.RowPartialEq.TheImpl as row
use Rattle.gd_question.proofs.Limits.{length-elements, limits_first, limit-with_limit}
use Rattle.gd_question.proofs.Sound.{Each}

-- a test of two rows decides whether they are one
abbrev row_from : Ends → ℕ → ℕ → ℕ → Row
row_from ends class floor ceiling = record { ends = ends; class = class; floor = floor; ceiling = ceiling }

same_row : (a b : Row) → a.ends ≡ b.ends → a.class ≡ b.class → a.floor ≡ b.floor → a.ceiling ≡ b.ceiling → a ≡ b
same_row a b p q r s =
    ap (λ (e : Ends). row_from e a.class a.floor a.ceiling) p ∙ ap (λ (n : ℕ). row_from b.ends n a.floor a.ceiling) q
    ∙ ap (λ (n : ℕ). row_from b.ends b.class n a.ceiling) r ∙ ap (λ (n : ℕ). row_from b.ends b.class b.floor n) s

bounded : (a b : Row) → Decides (nat_eq a.floor b.floor && nat_eq a.ceiling b.ceiling) ((a.floor ≡ b.floor) × (a.ceiling ≡ b.ceiling))
bounded a b = both _ _ (Decides-eqb a.floor b.floor) (Decides-eqb a.ceiling b.ceiling) (λ p q. (p, q)) (λ r. r.0) (λ r. r.1)

numbered : (a b : Row) → Decides (nat_eq a.class b.class && (nat_eq a.floor b.floor && nat_eq a.ceiling b.ceiling)) ((a.class ≡ b.class) × (a.floor ≡ b.floor) × (a.ceiling ≡ b.ceiling))
numbered a b = both _ _ (Decides-eqb a.class b.class) (bounded a b) (λ p q. (p, q.0, q.1)) (λ r. r.0) (λ r. (r.1, r.2))

pub rows_decided : (a b : Row) → Decides (row.eq-value.it a b) (a ≡ b)
rows_decided a b =
    both _ _ (ends_decided a.ends b.ends) (numbered a b) (λ p q. same_row a b p q.0 q.1 q.2)
    (λ r. ap (λ (v : Row). v.ends) r) (λ r. (ap (λ (v : Row). v.class) r, ap (λ (v : Row). v.floor) r, ap (λ (v : Row). v.ceiling) r))

-- An element that has a limit shows it.
same_limit : (e : rules.Element) (x y : ℕ) → IsSome (limit_of e) → with_limit e x ≡ with_limit e y → x ≡ y
same_limit e x y some h =
    let shown : Some x ≡ Some y = sym (limit-with_limit e x some) ∙ ap limit_of h ∙ limit-with_limit e y some in
    cc

same_head : {A : Type 0} (a b : A) (xs ys : List A) → a ∷ xs ≡ b ∷ ys → a ≡ b
same_head a b xs ys h = cc

same_tail : {A : Type 0} (a b : A) (xs ys : List A) → a ∷ xs ≡ b ∷ ys → xs ≡ ys
same_tail a b xs ys h = cc

same_limits : (elements : List rules.Element) (xs ys : List ℕ) → length xs ≡ length ys → length xs ≤ length elements
    → ((k : ℕ) → k < length xs → IsSome (limit_of (get_or elements k (Pool 0)))) → in_force elements xs ≡ in_force elements ys → xs ≡ ys
same_limits elements [] [] n m limited h = refl
same_limits elements [] (y ∷ ys) n m limited h = absurd (omega arith)
same_limits elements (x ∷ xs) [] n m limited h = absurd (omega arith)
same_limits [] (x ∷ xs) (y ∷ ys) n m limited h = absurd (omega arith)
same_limits (e ∷ elements) (x ∷ xs) (y ∷ ys) n m limited h =
    let first = same_limit e x y (limited 0 (omega arith)) (same_head (with_limit e x) (with_limit e y) (in_force elements xs) (in_force elements ys) h) in
    let later = same_limits elements xs ys (omega arith) (omega arith) (λ k i. limited (suc k) (omega arith)) (same_tail (with_limit e x) (with_limit e y) (in_force elements xs) (in_force elements ys) h) in
    ap₂ (λ (n : ℕ) (ns : List ℕ). n ∷ ns) first later

-- A line shows its row: the places of its ends are those that the ends hang on.
shown_row : (p : Pipeline) (a b : Row) → IsRow p a → IsRow p b → line_of p a ≡ line_of p b → a ≡ b
shown_row p a b ra rb h =
    let origin : a.ends.origin.0 ≡ b.ends.origin.0 = ap (λ (l : rules.Line). l.origin) h in
    let dest : a.ends.dest.0 ≡ b.ends.dest.0 = ap (λ (l : rules.Line). l.dest) h in
    let from : a.ends.origin_place.0 ≡ b.ends.origin_place.0 = sym ra.ends.origin_hangs ∙ ap (λ n. place_of (element_at p n)) origin ∙ rb.ends.origin_hangs in
    let to : a.ends.dest_place.0 ≡ b.ends.dest_place.0 = sym ra.ends.dest_hangs ∙ ap (λ n. place_of (element_at p n)) dest ∙ rb.ends.dest_hangs in
    same_row a b (same_ends a.ends b.ends origin dest from to) (ap (λ (l : rules.Line). l.class) h) (ap (λ (l : rules.Line). l.floor) h) (ap (λ (l : rules.Line). l.ceiling) h)

rest_sound : (p : Pipeline) (row : Row) (rows : List Row) → Each p (row ∷ rows) → Each p rows
rest_sound p row rows all i other h e = all (suc i) other (omega arith) e

same_lines : (p : Pipeline) (xs ys : List Row) → Each p xs → Each p ys → map (line_of p) xs ≡ map (line_of p) ys → xs ≡ ys
same_lines p [] [] ax ay h = refl
same_lines p [] (y ∷ ys) ax ay h = cc
same_lines p (x ∷ xs) [] ax ay h = cc
same_lines p (x ∷ xs) (y ∷ ys) ax ay h =
    let first = shown_row p x y (ax 0 x (omega arith) refl) (ay 0 y (omega arith) refl) (same_head (line_of p x) (line_of p y) (map (line_of p) xs) (map (line_of p) ys) h) in
    let later = same_lines p xs ys (rest_sound p x xs ax) (rest_sound p y ys ay) (same_tail (line_of p x) (line_of p y) (map (line_of p) xs) (map (line_of p) ys) h) in
    ap₂ (λ (row : Row) (rows : List Row). row ∷ rows) first later

abbrev posed_from : Pipeline → List ℕ → List Row → List ℕ → ℕ → ℕ → Posed
posed_from p limits rows book cycle round = record {
  pipeline = p;
  asked = record { elements = in_force (elements_of p) limits; lines = map (line_of p) rows };
  book = book;
  cycle = cycle;
  round = round;
}

module _ (a b : Inside) where
  -- questions of equal parts are the same
  pub posed_alike : a.system ≡ b.system → a.capacities.items ≡ b.capacities.items → a.rows.items ≡ b.rows.items → a.book ≡ b.book → a.cycle ≡ b.cycle → a.round ≡ b.round → posed_of a ≡ posed_of b
  posed_alike p q r s t u =
      ap (λ (v : Pipeline). posed_from v a.capacities.items a.rows.items a.book a.cycle a.round) p
      ∙ ap (λ (v : List ℕ). posed_from b.system v a.rows.items a.book a.cycle a.round) q
      ∙ ap (λ (v : List Row). posed_from b.system b.capacities.items v a.book a.cycle a.round) r
      ∙ ap (λ (v : List ℕ). posed_from b.system b.capacities.items b.rows.items v a.cycle a.round) s
      ∙ ap (λ (v : ℕ). posed_from b.system b.capacities.items b.rows.items b.book v a.round) t
      ∙ ap (λ (v : ℕ). posed_from b.system b.capacities.items b.rows.items b.book b.cycle v) u

  module _ (ia : IsSound a) (ib : IsSound b) (same : posed_of a ≡ posed_of b) where
    pub same_system : a.system ≡ b.system
    same_system = ap (λ (v : Posed). v.pipeline) same

    sized : length a.capacities.items ≡ length b.capacities.items
    sized = ia.limited ∙ ap (λ (p : Pipeline). length p.tree + length p.points) same_system ∙ sym ib.limited

    elements_same : in_force (elements_of a.system) a.capacities.items ≡ in_force (elements_of a.system) b.capacities.items
    elements_same = ap (λ (v : Posed). v.asked.elements) same ∙ ap (λ (p : Pipeline). in_force (elements_of p) b.capacities.items) (sym same_system)

    pub same_capacities : a.capacities.items ≡ b.capacities.items
    same_capacities =
        let parts = length-elements a.system in
        let limited = ia.limited in
        same_limits (elements_of a.system) a.capacities.items b.capacities.items sized (omega arith)
        (λ k h. limits_first a.system k ia.system (omega arith)) elements_same

    lines_same : map (line_of a.system) a.rows.items ≡ map (line_of a.system) b.rows.items
    lines_same = ap (λ (v : Posed). v.asked.lines) same ∙ ap (λ (p : Pipeline). map (line_of p) b.rows.items) (sym same_system)

    pub same_rows : a.rows.items ≡ b.rows.items
    same_rows = same_lines a.system a.rows.items b.rows.items ia.rows (subst (λ (p : Pipeline). Each p b.rows.items) (sym same_system) ib.rows) lines_same
