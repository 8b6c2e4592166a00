-- What a question in the making is, from the tables.
use Rattle.std.proofs.Common.{◌≡◌, ℕ, zero, suc, ◌+◌, ◌<◌, ◌≤◌, Bool, true, false, cond, List, [], ◌∷◌, ◌++◌, length, map, take, get_or, set, Some, None, Result, Ok, Err, refl, sym, ap, ◌∙◌, arith, add-one, zero-add}
use Rattle.std.specs.Prelude.{nat_le, nat_lt, filter, ◌==◌, ◌||◌, if◌then◌else◌, IsOk}
use Rattle.std.proofs.lemmas.Bool.Decides.{nat_tests}
use Rattle.std.proofs.lemmas.Bool.{lt-ltb}
use Rattle.std.proofs.lemmas.List.{get_or-take, length-take}
use Rattle.gd_rules.specs.Lines.{Key, Nomination, no_key, same_key, lines_of, line_key, of_line, until, last_quantity}
use Rattle.gd_rules.specs.Lists.{nominated, lines_until}
use Rattle.std.specs.List.{range_with_len}
use Rattle.std.proofs.lemmas.List.FromFn.{map-range_with_len_more}
use Rattle.gd_rules.specs.Question.{Element, Line}
use Rattle.gd_rules.specs.Question.Element.{Pool}
use Rattle.gd_system.specs.Pipeline.{Pipeline, elements_of}
use Rattle.gd_system.specs.Route.{element_at, ends_of}
use Rattle.gd_system.specs.Known.{IsSystem}
use Rattle.gd_question.specs.Posing.{Posed}
use Rattle.gd_question.specs.Filling.{with_capacity, changed, after_capacity, line_within, lengthened, after_line}
use Rattle.gd_question.specs.InForce.{with_limit, limit_fault, in_force}
use Rattle.gd_question.specs.Filling as filling
use Rattle.gd_question.specs.declared.fault.LineFault.{LineFault}
use Rattle.gd_question.specs.declared.fault.LineFault.TheVariants.{FloorAboveCeiling, BadClass, TooMany}
use Rattle.gd_system.specs.declared.part.Ends.{Ends}
use Rattle.gd_system.specs.declared.RouteFault.{RouteFault}
use Rattle.gd_question.specs.declared.fault.CapacityFault.TheVariants.{UnknownElement}
use Rattle.gd_question.proofs.InForceLemmas.{length-in_force, in_force-past}
use Rattle.gd_question.proofs.Limits.{length-elements, limits_first, fault_none}
use Rattle.gd_machine.specs.Day.{Day}
use Rattle.gd_machine.specs.History.{History}
use Rattle.gd_machine.specs.Asking.{key_of, class_of, floor_of, confirmed_of, line_over, line_of}
use Rattle.gd_machine.specs.Asking as asked
use Rattle.gd_book_part.specs.Asking.{with_line, with_capacities, asked_until}

-- two tests after one another
filter_filter : (p q : Nomination → Bool) (ns : List Nomination) → filter p (filter q ns) ≡ filter q (filter p ns)
filter_filter p q [] = refl
filter_filter p q (n ∷ ns) = go (p n) (q n) refl refl (filter_filter p q ns)
  where
    go : (a b : Bool) → p n ≡ a → q n ≡ b → filter p (filter q ns) ≡ filter q (filter p ns) → filter p (cond b (n ∷ filter q ns) (filter q ns)) ≡ filter q (cond a (n ∷ filter p ns) (filter p ns))
    go true true e f ih = ap (λ v. cond v (n ∷ filter p (filter q ns)) (filter p (filter q ns))) e ∙ ap (λ l. n ∷ l) ih ∙ sym (ap (λ v. cond v (n ∷ filter q (filter p ns)) (filter q (filter p ns))) f)
    go true false e f ih = ih ∙ sym (ap (λ v. cond v (n ∷ filter q (filter p ns)) (filter q (filter p ns))) f)
    go false true e f ih = ap (λ v. cond v (n ∷ filter p (filter q ns)) (filter p (filter q ns))) e ∙ ih
    go false false e f ih = ih

-- the first lines are those that count
pub nominated_is : (ns : List Nomination) (c line n : ℕ) → lines_until ns c ≡ take n (lines_of ns) → line < n
    → nominated ns (line_key ns line) c ≡ last_quantity (of_line (line_key (until c ns) line) (until c ns))
nominated_is ns c line n first within =
    let key : line_key (until c ns) line ≡ line_key ns line = ap (λ (keys : List Key). get_or keys line no_key) first ∙ get_or-take n (lines_of ns) line no_key within in
    ap last_quantity (filter_filter (λ m. nat_le m.cycle c) (λ m. same_key (line_key ns line) m.key) ns)
    ∙ ap (λ (k : Key). last_quantity (of_line k (until c ns))) (sym key)

-- ---- capacities

in_force-none : (elements : List Element) → in_force elements [] ≡ elements
in_force-none [] = refl
in_force-none (e ∷ elements) = refl

-- one capacity more
in_force-push : (elements : List Element) (limits : List ℕ) (n x : ℕ) → n < length elements → n < length limits → x ≡ get_or limits n x
    → set (in_force elements (take n limits)) n (with_limit (get_or (in_force elements (take n limits)) n (Pool 0)) x) ≡ in_force elements (take (suc n) limits)
in_force-push [] limits n x h k e = absurd (omega arith)
in_force-push (e ∷ elements) [] n x h k i = absurd (omega arith)
in_force-push (e ∷ elements) (limit ∷ limits) zero x h k i = ap (λ y. with_limit e y ∷ elements) i ∙ ap (λ l. with_limit e limit ∷ l) (sym (in_force-none elements))
in_force-push (e ∷ elements) (limit ∷ limits) (suc n) x h k i = ap (λ l. with_limit e limit ∷ l) (in_force-push elements limits n x (omega arith) (omega arith) i)

-- the first of these elements have a capacity, which may be set
pub capacity_more : (b : Posed) (limits : List ℕ) (n x : ℕ) → IsSystem b.pipeline → length limits ≡ length b.pipeline.tree + length b.pipeline.points → n < length limits → x ≡ get_or limits n x
    → after_capacity (with_capacities b (take n limits)) n x ≡ Ok (with_capacities b (take (n + 1) limits))
capacity_more b limits n x system counted within is =
    let elements : List Element = elements_of b.pipeline in
    let parts = length-elements b.pipeline in
    let there : n < length elements = omega arith in
    let asked : List Element = in_force elements (take n limits) in
    let sized = length-in_force elements (take n limits) in
    let inside : nat_lt n (length asked) ≡ true = lt-ltb n (length asked) (omega (arith, sized, there)) in
    let cut : length (take n limits) ≤ n = omega (arith, length-take {A = ℕ}) in
    let own : get_or asked n (Pool 0) ≡ get_or elements n (Pool 0) = in_force-past elements (take n limits) n cut in
    let free : limit_fault (get_or asked n (Pool 0)) ≡ None = ap limit_fault own ∙ fault_none (element_at b.pipeline n) (limits_first b.pipeline n system (omega arith)) in
    ap (λ (v : Bool). changed (if v then limit_fault (get_or asked n (Pool 0)) else Some UnknownElement) (with_capacity (with_capacities b (take n limits)) n x)) inside
    ∙ ap (λ o. changed o (with_capacity (with_capacities b (take n limits)) n x)) free
    ∙ ap (λ (es : List Element). Ok (record b { asked = record b.asked { elements = es } })) (in_force-push elements limits n x there within is ∙ ap (λ k. in_force elements (take k limits)) (sym (add-one n)))

pub no_capacity : (b : Posed) → b.asked.elements ≡ elements_of b.pipeline → b ≡ with_capacities b []
no_capacity b own = ap (λ (es : List Element). record b { asked = record b.asked { elements = es } }) (own ∙ sym (in_force-none (elements_of b.pipeline)))

-- ---- lines

-- one line more
pub asked_more : (day : Day) (h : History) (round n : ℕ) (key : Key) (class floor ceiling : ℕ) → key ≡ key_of day h n → class ≡ class_of day h n → floor ≡ floor_of day h n → ceiling ≡ confirmed_of day h n
    → with_line (asked_until day h round n) (line_over day.holdings.pipeline (ends_of day.holdings.pipeline key.origin key.dest) class floor ceiling) ≡ asked_until day h round (n + 1)
asked_more day h round n key class floor ceiling is_key is_class is_floor is_ceiling =
    let p : Pipeline = day.holdings.pipeline in
    let line : line_over p (ends_of p key.origin key.dest) class floor ceiling ≡ line_of day h n = λ i. line_over p (ends_of p (is_key i).origin (is_key i).dest) (is_class i) (is_floor i) (is_ceiling i) in
    let lines = ap (λ (l : Line). map (line_of day h) (range_with_len 0 n) ++ l ∷ []) line ∙ sym (map-range_with_len_more (line_of day h) 0 n n (zero-add n)) in
    ap (λ (ls : List Line). record (asked.question day h) { round = round; asked = record (asked.question day h).asked { lines = ls } }) lines

within_taken : (count class floor ceiling : ℕ) (ends : Ends) → floor ≤ ceiling → 1 ≤ class → class ≤ 8 → count < 20000 → line_within count class floor ceiling (Ok ends) ≡ Ok ends
within_taken count class floor ceiling ends bounds low high few =
    let a : nat_lt ceiling floor ≡ false = grind (arith, nat_tests) in
    let b : (class == 0) ≡ false = grind (arith, nat_tests) in
    let d : nat_lt 8 class ≡ false = grind (arith, nat_tests) in
    let e : nat_le 20000 count ≡ false = grind (arith, nat_tests) in
    λ i. if a i then Err FloorAboveCeiling else if b i || d i then Err BadClass else if e i then Err TooMany else Ok ends

-- a line with a route, with its bounds and its class is not refused
pub line_taken : (q : Posed) (origin dest : List ℕ) (class floor ceiling : ℕ) (fault : LineFault) → IsOk (ends_of q.pipeline origin dest) → floor ≤ ceiling → 1 ≤ class → class ≤ 8 → length q.asked.lines < 20000
    → after_line q origin dest class floor ceiling ≡ Err fault → ⊥
line_taken q origin dest class floor ceiling fault routed bounds low high few = go (ends_of q.pipeline origin dest) routed
  where
    go : (r : Result Ends RouteFault) → IsOk r → lengthened (λ ends. filling.with_line q ends class floor ceiling) (line_within (length q.asked.lines) class floor ceiling r) ≡ Err fault → ⊥
    go (Ok ends) ok e =
        let taken = sym e ∙ ap (lengthened (λ ends. filling.with_line q ends class floor ceiling)) (within_taken (length q.asked.lines) class floor ceiling ends bounds low high few) in
        cc
    go (Err f) ok e = absurd (cc)
