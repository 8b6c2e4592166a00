-- The test of two questions tells exactly whether they are equal.
use Rattle.std.proofs.Common.{◌≡◌, ℕ, Bool, true, false, ◌&&◌, ◌==◌, List, [], ◌∷◌, refl, ap, ◌∙◌}
use Rattle.std.proofs.lemmas.Bool.{false≢true, eqb-true, eq-eqb}
use Rattle.std.specs.Cmp.Lexicographic.{pointwise}
use Rattle.gd_rules.specs.Question.{Element, Line, Question}
use Rattle.gd_rules.specs.Question.Element.{Segment, Receipt, Delivery, Pool}
use Rattle.gd_units.specs.declared.service.Kind.{Kind}
use Rattle.gd_units.specs.declared.service.Kind.TheVariants as kind
use Rattle.gd_system.specs.declared.part.Point.{Point}
use Rattle.gd_system.specs.declared.part.Pool.{Pool as OnePool}
use Rattle.gd_system.specs.Pipeline.{Pipeline, same_name}
use Rattle.gd_question.specs.Posing.{Posed}
use Rattle.gd_machine.specs.Same.{same_element, same_line, same_kind, same_point, same_pool, same_pipeline, same_asked, same_question}

-- ---- where the test is true the two are equal

left : (a b : Bool) → (a && b) ≡ true → a ≡ true
left true b e = refl
left false b e = absurd (false≢true e)

right : (a b : Bool) → (a && b) ≡ true → b ≡ true
right true b e = e
right false b e = absurd (false≢true e)

lists : {X : Type 0} (same : X → X → Bool) → ((a b : X) → same a b ≡ true → a ≡ b) → (xs ys : List X) → pointwise same xs ys ≡ true → xs ≡ ys
lists same tells [] [] e = refl
lists same tells [] (y ∷ ys) e = absurd (false≢true e)
lists same tells (x ∷ xs) [] e = absurd (false≢true e)
lists same tells (x ∷ xs) (y ∷ ys) e =
    let head = tells x y (left (same x y) (pointwise same xs ys) e) in
    let tail = lists same tells xs ys (right (same x y) (pointwise same xs ys) e) in
    λ i. head i ∷ tail i

numbers : (a b : ℕ) → (a == b) ≡ true → a ≡ b
numbers a b e = eqb-true a b e

names : (a b : List ℕ) → same_name a b ≡ true → a ≡ b
names a b e = lists ◌==◌ numbers a b e

elements : (a b : Element) → same_element a b ≡ true → a ≡ b
elements (Segment f t c) (Segment g u d) e =
    let p = numbers f g (left (f == g) ((t == u) && (c == d)) e) in
    let r = right (f == g) ((t == u) && (c == d)) e in
    let q = numbers t u (left (t == u) (c == d) r) in
    let s = numbers c d (right (t == u) (c == d) r) in
    λ i. Segment (p i) (q i) (s i)
elements (Receipt a c) (Receipt b d) e =
    let p = numbers a b (left (a == b) (c == d) e) in
    let q = numbers c d (right (a == b) (c == d) e) in
    λ i. Receipt (p i) (q i)
elements (Delivery a c) (Delivery b d) e =
    let p = numbers a b (left (a == b) (c == d) e) in
    let q = numbers c d (right (a == b) (c == d) e) in
    λ i. Delivery (p i) (q i)
elements (Pool a) (Pool b) e = let p = numbers a b e in λ i. Pool (p i)
elements (Segment f t c) (Receipt b d) e = absurd (false≢true e)
elements (Segment f t c) (Delivery b d) e = absurd (false≢true e)
elements (Segment f t c) (Pool b) e = absurd (false≢true e)
elements (Receipt a c) (Segment g u d) e = absurd (false≢true e)
elements (Receipt a c) (Delivery b d) e = absurd (false≢true e)
elements (Receipt a c) (Pool b) e = absurd (false≢true e)
elements (Delivery a c) (Segment g u d) e = absurd (false≢true e)
elements (Delivery a c) (Receipt b d) e = absurd (false≢true e)
elements (Delivery a c) (Pool b) e = absurd (false≢true e)
elements (Pool a) (Segment g u d) e = absurd (false≢true e)
elements (Pool a) (Receipt b d) e = absurd (false≢true e)
elements (Pool a) (Delivery b d) e = absurd (false≢true e)

lines : (a b : Line) → same_line a b ≡ true → a ≡ b
lines a b e =
    let v = a.floor == b.floor in let w = a.ceiling == b.ceiling in
    let u = a.class == b.class in let t = pointwise ◌==◌ a.route b.route in
    let s = a.dest == b.dest in let r = a.origin == b.origin in
    let e1 = right r (s && (t && (u && (v && w)))) e in
    let e2 = right s (t && (u && (v && w))) e1 in
    let e3 = right t (u && (v && w)) e2 in
    let e4 = right u (v && w) e3 in
    let origin = numbers a.origin b.origin (left r (s && (t && (u && (v && w)))) e) in
    let dest = numbers a.dest b.dest (left s (t && (u && (v && w))) e1) in
    let route = names a.route b.route (left t (u && (v && w)) e2) in
    let class = numbers a.class b.class (left u (v && w) e3) in
    let floor = numbers a.floor b.floor (left v w e4) in
    let ceiling = numbers a.ceiling b.ceiling (right v w e4) in
    λ i. record { origin = origin i; dest = dest i; route = route i; class = class i; floor = floor i; ceiling = ceiling i }

kinds : (a b : Kind) → same_kind a b ≡ true → a ≡ b
kinds kind.Receipt kind.Receipt e = refl
kinds kind.Delivery kind.Delivery e = refl
kinds kind.Receipt kind.Delivery e = absurd (false≢true e)
kinds kind.Delivery kind.Receipt e = absurd (false≢true e)

points : (a b : List ℕ × Point) → same_point a b ≡ true → a ≡ b
points a b e =
    let r = same_name a.0 b.0 in let s = same_kind a.1.kind b.1.kind in
    let t = a.1.place.0 == b.1.place.0 in let u = same_name a.1.operator b.1.operator in let v = a.1.capacity == b.1.capacity in
    let e1 = right r (s && (t && (u && v))) e in
    let e2 = right s (t && (u && v)) e1 in
    let e3 = right t (u && v) e2 in
    let name = names a.0 b.0 (left r (s && (t && (u && v))) e) in
    let what = kinds a.1.kind b.1.kind (left s (t && (u && v)) e1) in
    let place = numbers a.1.place.0 b.1.place.0 (left t (u && v) e2) in
    let operator = names a.1.operator b.1.operator (left u v e3) in
    let capacity = numbers a.1.capacity b.1.capacity (right u v e3) in
    λ i. (name i, record { kind = what i; place = record { 0 = place i }; operator = operator i; capacity = capacity i })

pools : (a b : List ℕ × OnePool) → same_pool a b ≡ true → a ≡ b
pools a b e =
    let r = same_name a.0 b.0 in let t = a.1.place.0 == b.1.place.0 in let u = same_name a.1.operator b.1.operator in
    let e1 = right r (t && u) e in
    let name = names a.0 b.0 (left r (t && u) e) in
    let place = numbers a.1.place.0 b.1.place.0 (left t u e1) in
    let operator = names a.1.operator b.1.operator (right t u e1) in
    λ i. (name i, record { place = record { 0 = place i }; operator = operator i })

pipelines : (a b : Pipeline) → same_pipeline a b ≡ true → a ≡ b
pipelines a b e =
    let r = pointwise same_name a.places b.places in let s = pointwise same_name a.segments b.segments in
    let t = pointwise same_element a.tree b.tree in let u = pointwise same_point a.points b.points in let v = pointwise same_pool a.pools b.pools in
    let e1 = right r (s && (t && (u && v))) e in
    let e2 = right s (t && (u && v)) e1 in
    let e3 = right t (u && v) e2 in
    let places = lists same_name names a.places b.places (left r (s && (t && (u && v))) e) in
    let segments = lists same_name names a.segments b.segments (left s (t && (u && v)) e1) in
    let tree = lists same_element elements a.tree b.tree (left t (u && v) e2) in
    let all_points = lists same_point points a.points b.points (left u v e3) in
    let all_pools = lists same_pool pools a.pools b.pools (right u v e3) in
    λ i. record { places = places i; segments = segments i; tree = tree i; points = all_points i; pools = all_pools i }

askeds : (a b : Question) → same_asked a b ≡ true → a ≡ b
askeds a b e =
    let r = pointwise same_element a.elements b.elements in let s = pointwise same_line a.lines b.lines in
    let all = lists same_element elements a.elements b.elements (left r s e) in
    let crossing = lists same_line lines a.lines b.lines (right r s e) in
    λ i. record { elements = all i; lines = crossing i }

pub same_tells : (a b : Posed) → same_question a b ≡ true → a ≡ b
same_tells a b e =
    let r = same_pipeline a.pipeline b.pipeline in let s = same_asked a.asked b.asked in
    let t = same_name a.book b.book in let u = a.cycle == b.cycle in let v = a.round == b.round in
    let e1 = right r (s && (t && (u && v))) e in
    let e2 = right s (t && (u && v)) e1 in
    let e3 = right t (u && v) e2 in
    let pipeline = pipelines a.pipeline b.pipeline (left r (s && (t && (u && v))) e) in
    let asked = askeds a.asked b.asked (left s (t && (u && v)) e1) in
    let book = names a.book b.book (left t (u && v) e2) in
    let cycle = numbers a.cycle b.cycle (left u v e3) in
    let round = numbers a.round b.round (right u v e3) in
    λ i. record { pipeline = pipeline i; asked = asked i; book = book i; cycle = cycle i; round = round i }

-- ---- where the two are equal the test is true

both_true : (a b : Bool) → a ≡ true → b ≡ true → (a && b) ≡ true
both_true a b p q = ap (λ x. x && b) p ∙ q

lists_self : {X : Type 0} (same : X → X → Bool) → ((a : X) → same a a ≡ true) → (xs : List X) → pointwise same xs xs ≡ true
lists_self same self [] = refl
lists_self same self (x ∷ xs) = both_true (same x x) (pointwise same xs xs) (self x) (lists_self same self xs)

number_self : (a : ℕ) → (a == a) ≡ true
number_self a = eq-eqb a a refl

name_self : (a : List ℕ) → same_name a a ≡ true
name_self a = lists_self ◌==◌ number_self a

element_self : (a : Element) → same_element a a ≡ true
element_self (Segment f t c) = both_true (f == f) ((t == t) && (c == c)) (number_self f) (both_true (t == t) (c == c) (number_self t) (number_self c))
element_self (Receipt a c) = both_true (a == a) (c == c) (number_self a) (number_self c)
element_self (Delivery a c) = both_true (a == a) (c == c) (number_self a) (number_self c)
element_self (Pool a) = number_self a

line_self : (a : Line) → same_line a a ≡ true
line_self a =
    let bounds = both_true (a.floor == a.floor) (a.ceiling == a.ceiling) (number_self a.floor) (number_self a.ceiling) in
    let class = both_true (a.class == a.class) _ (number_self a.class) bounds in
    let route = both_true (pointwise ◌==◌ a.route a.route) _ (name_self a.route) class in
    both_true (a.origin == a.origin) _ (number_self a.origin) (both_true (a.dest == a.dest) _ (number_self a.dest) route)

kind_self : (a : Kind) → same_kind a a ≡ true
kind_self kind.Receipt = refl
kind_self kind.Delivery = refl

point_self : (a : List ℕ × Point) → same_point a a ≡ true
point_self a =
    let last = both_true (same_name a.1.operator a.1.operator) (a.1.capacity == a.1.capacity) (name_self a.1.operator) (number_self a.1.capacity) in
    let place = both_true (a.1.place.0 == a.1.place.0) _ (number_self a.1.place.0) last in
    both_true (same_name a.0 a.0) _ (name_self a.0) (both_true (same_kind a.1.kind a.1.kind) _ (kind_self a.1.kind) place)

pool_self : (a : List ℕ × OnePool) → same_pool a a ≡ true
pool_self a =
    let last = both_true (a.1.place.0 == a.1.place.0) (same_name a.1.operator a.1.operator) (number_self a.1.place.0) (name_self a.1.operator) in
    both_true (same_name a.0 a.0) _ (name_self a.0) last

pipeline_self : (a : Pipeline) → same_pipeline a a ≡ true
pipeline_self a =
    let ends = both_true (pointwise same_point a.points a.points) (pointwise same_pool a.pools a.pools) (lists_self same_point point_self a.points) (lists_self same_pool pool_self a.pools) in
    let tree = both_true (pointwise same_element a.tree a.tree) _ (lists_self same_element element_self a.tree) ends in
    let segments = both_true (pointwise same_name a.segments a.segments) _ (lists_self same_name name_self a.segments) tree in
    both_true (pointwise same_name a.places a.places) _ (lists_self same_name name_self a.places) segments

pub same_self : (a : Posed) → same_question a a ≡ true
same_self a =
    let numbers = both_true (a.cycle == a.cycle) (a.round == a.round) (number_self a.cycle) (number_self a.round) in
    let book = both_true (same_name a.book a.book) _ (name_self a.book) numbers in
    let asked = both_true (pointwise same_element a.asked.elements a.asked.elements) (pointwise same_line a.asked.lines a.asked.lines) (lists_self same_element element_self a.asked.elements) (lists_self same_line line_self a.asked.lines) in
    both_true (same_pipeline a.pipeline a.pipeline) _ (pipeline_self a.pipeline) (both_true (same_asked a.asked a.asked) _ asked book)
