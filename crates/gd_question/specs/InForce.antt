-- An element with another capacity, and the elements of a pipeline with the capacities in force.
use Rattle.std.specs.Prelude.{ℕ, List, [], ◌∷◌, Option, Some, None}
use Rattle.gd_rules.specs.Question as rules
use Rattle.gd_rules.specs.Question.Element.{Segment as segment, Receipt as receipt, Delivery as delivery, Pool as pool}
use Rattle.gd_question.specs.declared.fault.CapacityFault.{CapacityFault}
use Rattle.gd_question.specs.declared.fault.CapacityFault.TheVariants.{IsPool}

-- The element with another capacity.
abbrev pub with_limit : rules.Element → ℕ → rules.Element
with_limit (segment from to capacity) limit = segment from to limit
with_limit (receipt place capacity) limit = receipt place limit
with_limit (delivery place capacity) limit = delivery place limit
with_limit (pool place) limit = pool place

abbrev pub limit_fault : rules.Element → Option CapacityFault
limit_fault (segment from to capacity) = None
limit_fault (receipt place capacity) = None
limit_fault (delivery place capacity) = None
limit_fault (pool place) = Some IsPool

-- Segments and points stand first, and each has its capacity in the list. Pools stand behind them, and have none.
abbrev pub in_force : List rules.Element → List ℕ → List rules.Element
in_force [] limits = []
in_force (e ∷ elements) [] = e ∷ elements
in_force (e ∷ elements) (limit ∷ limits) = with_limit e limit ∷ in_force elements limits
