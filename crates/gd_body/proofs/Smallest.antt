-- A posting that a book may publish: of one segment, two points and one line.
use Rattle.std.proofs.Common.{◌≡◌, ◌≢◌, ℕ, ℤ, pos, negsuc, zero, suc, ◌<◌, ◌≤◌, List, [], ◌∷◌, length, get_or, All, refl, ap, arith, inr}
use Rattle.std.specs.Prelude.{codes, replicate, IfSome}
use Rattle.std.specs.List.{IsDistinct}
use Rattle.std.proofs.lemmas.List.Elements.{All-from_recursion, All-cons, All-replicate}
use Rattle.gd_rules.specs.Question as rules
use Rattle.gd_rules.specs.Question.Element.{Segment as segment, Receipt as receipt, Delivery as delivery, Pool as pool}
use Rattle.gd_rules.specs.Tree.{IsLine, IsRoute}
use Rattle.gd_rules.specs.Question.{place_of}
use Rattle.gd_tree.specs.Grown.{Joins, IsNoSegment}
use Rattle.gd_cost.specs.declared.lex.Lex.{Lex}
use Rattle.gd_cost.specs.declared.pair.Pair.{Pair}
use Rattle.gd_units.specs.declared.service.Kind.TheVariants as way
use Rattle.gd_system.specs.Pipeline.{Pipeline, elements_of, names_of, capacity_of}
use Rattle.gd_system.specs.Route.{element_at}
use Rattle.gd_system.specs.Known.{IsSystem}
use Rattle.gd_question.specs.Posing.{Posed}
use Rattle.gd_board.specs.declared.posting.Posting.{Posting}
use Rattle.gd_body.specs.Publishable.{IsName, IsQuantity, IsShort, AreApart, IsBuiltPipeline, IsPosedQuestion, IsShortPrice, IsPublishable}

abbrev pub small_pipeline : Pipeline
small_pipeline = record {
  places = codes "A" ∷ codes "B" ∷ [];
  segments = codes "S1" ∷ [];
  tree = segment 0 1 100 ∷ [];
  points = (codes "R1", record { kind = way.Receipt; place = record { 0 = 0 }; operator = codes "OP"; capacity = 100 })
      ∷ (codes "D1", record { kind = way.Delivery; place = record { 0 = 1 }; operator = codes "OP"; capacity = 100 }) ∷ [];
  pools = [];
}

abbrev small_line : rules.Line
small_line = record { origin = 1; dest = 2; route = 0 ∷ []; class = 4; floor = 0; ceiling = 70 }

abbrev pub small_question : Posed
small_question = record {
  pipeline = small_pipeline;
  asked = record { elements = segment 0 1 80 ∷ receipt 0 100 ∷ delivery 1 100 ∷ []; lines = small_line ∷ [] };
  book = codes "DEMO";
  cycle = 2;
  round = 1;
}

abbrev zeros : List ℤ
zeros = replicate 8 (pos 0)

abbrev small_price : Pair (Lex 8) (Lex 8)
small_price = record { first = record { words = negsuc 4 ∷ replicate 7 (pos 0) }; second = record { words = zeros } }

abbrev pub small_posting : Posting
small_posting = record {
  book = codes "DEMO";
  cycle = 2;
  round = 1;
  question = small_question;
  schedule = 70 ∷ [];
  prices = small_price ∷ small_price ∷ small_price ∷ [];
  bumped = (0, 5) ∷ [];
}

apart_one : (a : List ℕ) → AreApart (a ∷ [])
apart_one a i j d low within = absurd (omega (arith, low, within))

apart_more : (a : List ℕ) (names : List (List ℕ)) → All (λ b. a ≢ b) names → AreApart names → AreApart (a ∷ names)
apart_more a names far rest zero zero d low within = absurd (omega (arith, low))
apart_more a names far rest zero (suc j) d low within = far j d (omega (arith, within))
apart_more a names far rest (suc i) zero d low within = absurd (omega (arith, low))
apart_more a names far rest (suc i) (suc j) d low within = rest i j d (omega (arith, low)) (omega (arith, within))

differ_at : (a b : List ℕ) (i : ℕ) → get_or a i 0 ≢ get_or b i 0 → a ≢ b
differ_at a b i far = λ (e : a ≡ b). far (ap (λ l. get_or l i 0) e)

joins : (k : ℕ) → k < 1 → Joins k (get_or (elements_of small_pipeline) k (pool 0))
joins zero low = inr (refl, omega arith)
joins (suc k) low = absurd (omega (arith, low))

others : (k : ℕ) → 1 ≤ k → IsNoSegment (get_or (elements_of small_pipeline) k (pool 0))
others zero low = absurd (omega (arith, low))
others (suc zero) low = tt
others (suc (suc zero)) low = tt
others (suc (suc (suc k))) low = tt

hung : (e : ℕ) → e < 3 → place_of (element_at small_pipeline e) ≤ 1
hung zero low = omega arith
hung (suc zero) low = omega arith
hung (suc (suc zero)) low = omega arith
hung (suc (suc (suc e))) low = absurd (omega (arith, low))

system : IsSystem small_pipeline
system = record {
  grown = record { joins = joins; others = others };
  some = omega arith;
  few_segments = omega arith;
  placed = refl;
  named = refl;
  few_points = omega arith;
  few_pools = omega arith;
  hung = hung;
}

built : IsBuiltPipeline small_pipeline
built = record {
  known = system;
  names = All-from_recursion IsName (names_of small_pipeline) (refl, (refl, (refl, tt)));
  names_apart = apart_more (codes "S1") (codes "R1" ∷ codes "D1" ∷ [])
      (All-from_recursion (λ b. codes "S1" ≢ b) (codes "R1" ∷ codes "D1" ∷ []) (differ_at (codes "S1") (codes "R1") 0 (omega arith), (differ_at (codes "S1") (codes "D1") 0 (omega arith), tt)))
      (apart_more (codes "R1") (codes "D1" ∷ []) (All-from_recursion (λ b. codes "R1" ≢ b) (codes "D1" ∷ []) (differ_at (codes "R1") (codes "D1") 0 (omega arith), tt)) (apart_one (codes "D1")));
  places = All-from_recursion IsName small_pipeline.places (refl, (refl, tt));
  places_apart = apart_more (codes "A") (codes "B" ∷ []) (All-from_recursion (λ b. codes "A" ≢ b) (codes "B" ∷ []) (differ_at (codes "A") (codes "B") 0 (omega arith), tt)) (apart_one (codes "B"));
  point_operators = All-from_recursion (λ e. IsName e.1.operator) small_pipeline.points (refl, (refl, tt));
  pool_operators = All-from_recursion (λ e. IsName e.1.operator) small_pipeline.pools tt;
  begins = refl;
  capacities = All-from_recursion (λ e. IfSome (capacity_of e) IsQuantity) (elements_of small_pipeline) (omega arith, (omega arith, (omega arith, tt)));
}

route : IsRoute small_question.asked.elements 0 (0 ∷ []) 1
unfolding IsDistinct
route = ((0, 1) ∷ [], refl, ((refl, refl), refl), ((refl, tt), (tt, tt)))

lined : (i : ℕ) → i < 1 → IsLine small_question.asked (rules.line small_question.asked i)
lined zero low = record {
  origin_known = omega arith;
  dest_known = omega arith;
  sends = tt;
  takes = tt;
  apart = λ (e : 1 ≡ 2). omega (arith, e);
  routed = route;
  bounds = omega arith;
  classed = (omega arith, omega arith);
}
lined (suc i) low = absurd (omega (arith, low))

routes_short : (i : ℕ) → i < 1 → length (rules.line small_question.asked i).route ≤ 4095
routes_short zero low = omega arith
routes_short (suc i) low = absurd (omega (arith, low))

posed : IsPosedQuestion small_question
posed = record {
  pipeline = built;
  book = refl;
  cycle = (omega arith, omega arith);
  round = (omega arith, omega arith);
  limits = 80 ∷ 100 ∷ 100 ∷ [];
  limited = refl;
  small = All-from_recursion IsQuantity (80 ∷ 100 ∷ 100 ∷ []) (omega arith, (omega arith, (omega arith, tt)));
  elements = refl;
  known = record { lined = lined; few_lines = omega arith; few_elements = omega arith; short = routes_short };
  ceilings = All-from_recursion (λ l. IsQuantity l.ceiling) small_question.asked.lines (omega arith, tt);
}

short_zero : IsShort (pos 0)
short_zero = omega arith

price : IsShortPrice small_price
price = record {
  words = refl;
  spreads = refl;
  short = All-cons IsShort (negsuc 4) (replicate 7 (pos 0)) (omega arith) (All-replicate IsShort 7 (pos 0) short_zero);
  short_spreads = All-replicate IsShort 8 (pos 0) short_zero;
}

pub small_is_publishable : IsPublishable small_posting
small_is_publishable = record {
  question = posed;
  book = refl;
  cycle = refl;
  round = refl;
  scheduled = refl;
  schedule = All-from_recursion IsQuantity (70 ∷ []) (omega arith, tt);
  priced = refl;
  prices = All-from_recursion IsShortPrice small_posting.prices (price, (price, (price, tt)));
  lines = All-from_recursion (λ b. b.0 < 1) small_posting.bumped (omega arith, tt);
  rising = λ k low. absurd (omega (arith, low));
  bumped = All-from_recursion (λ b. IsQuantity b.1) small_posting.bumped (omega arith, tt);
}
