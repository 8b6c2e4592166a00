-- A posting that a book may publish, whose text can say all of it: names are names, quantities and prices are within their limits,
-- its pipeline is as a builder leaves it, and the posting is about its question.
use Rattle.std.specs.Prelude.{◌≡◌, ◌≢◌, ℕ, ◌+◌, ◌^◌, ◌≤◌, ◌<◌, ℤ, unsigned_abs, List, length, map, All, IfSome, Ok}
use Rattle.std.specs.List.{AllPairs}
use Rattle.std.specs.List.Sorted.{IsStrictlyIncreasing}
use Rattle.gd_rules.specs.Limits.{most_dekatherms, cycles, most_rounds, classes}
use Rattle.gd_rules.specs.Question.{place_of}
use Rattle.gd_cost.specs.declared.lex.Lex.{Lex}
use Rattle.gd_cost.specs.declared.pair.Pair.{Pair}
use Rattle.gd_units.specs.Names.{name_of}
use Rattle.gd_system.specs.Pipeline.{Pipeline, elements_of, names_of, capacity_of}
use Rattle.gd_system.specs.Route.{element_at}
use Rattle.gd_system.specs.Known.{IsSystem}
use Rattle.gd_question.specs.InForce.{in_force}
use Rattle.gd_question.specs.Known.{IsKnown}
use Rattle.gd_question.specs.Posing.{Posed}
use Rattle.gd_board.specs.declared.posting.Posting.{Posting}

abbrev pub IsName : List ℕ → Type 0
IsName bytes = name_of bytes ≡ Ok bytes

abbrev pub IsQuantity : ℕ → Type 0
IsQuantity n = n ≤ most_dekatherms

-- no two of these names are the same
abbrev pub AreApart : List (List ℕ) → Type 0
AreApart names = AllPairs (λ a b. a ≢ b) names

-- A pipeline as a builder leaves it: no two elements have one name, nor two places, and the first segment leads from the first place.
pub record IsBuiltPipeline (p : Pipeline) : Type 0 where
  pub known : IsSystem p
  pub names : All IsName (names_of p)
  pub names_apart : AreApart (names_of p)
  pub places : All IsName p.places
  pub places_apart : AreApart p.places
  pub point_operators : All (λ e. IsName e.1.operator) p.points
  pub pool_operators : All (λ e. IsName e.1.operator) p.pools
  pub begins : place_of (element_at p 0) ≡ 0
  pub capacities : All (λ e. IfSome (capacity_of e) IsQuantity) (elements_of p)

-- A question about such a pipeline, with a capacity in force for each of its segments and points, and whose lines each have their route.
pub record IsPosedQuestion (q : Posed) : Type 0 where
  pub pipeline : IsBuiltPipeline q.pipeline
  pub book : IsName q.book
  pub cycle : (1 ≤ q.cycle) × (q.cycle ≤ cycles)
  pub round : (1 ≤ q.round) × (q.round ≤ most_rounds)
  pub limits : List ℕ
  pub limited : length limits ≡ length q.pipeline.tree + length q.pipeline.points
  pub small : All IsQuantity limits
  pub elements : q.asked.elements ≡ in_force (elements_of q.pipeline) limits
  pub known : IsKnown q.asked
  pub ceilings : All (λ l. IsQuantity l.ceiling) q.asked.lines

-- A number of at most 18 digits, which are all that a text's field may have.
abbrev pub IsShort : ℤ → Type 0
IsShort z = unsigned_abs z < 10 ^ 18

pub record IsShortPrice (price : Pair (Lex 8) (Lex 8)) : Type 0 where
  pub words : length price.first.words ≡ classes
  pub spreads : length price.second.words ≡ classes
  pub short : All IsShort price.first.words
  pub short_spreads : All IsShort price.second.words

-- The posting's book, cycle and round are its question's, each line has its quantity and each element its price, and the bumped lines are
-- lines of the question in rising order.
pub record IsPublishable (p : Posting) : Type 0 where
  pub question : IsPosedQuestion p.question
  pub book : p.book ≡ p.question.book
  pub cycle : p.cycle ≡ p.question.cycle
  pub round : p.round ≡ p.question.round
  pub scheduled : length p.schedule ≡ length p.question.asked.lines
  pub schedule : All IsQuantity p.schedule
  pub priced : length p.prices ≡ length (elements_of p.question.pipeline)
  pub prices : All IsShortPrice p.prices
  pub lines : All (λ b. b.0 < length p.question.asked.lines) p.bumped
  pub rising : IsStrictlyIncreasing (map (λ b. b.0) p.bumped)
  pub bumped : All (λ b. IsQuantity b.1) p.bumped
