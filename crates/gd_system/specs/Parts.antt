-- What an element of a pipeline is.
use Rattle.gd_rules.specs.Question as rules
use Rattle.gd_rules.specs.Question.Element.{Segment as segment, Receipt as receipt, Delivery as delivery, Pool as pool}
use Rattle.gd_system.specs.declared.part.Part.{Part}
use Rattle.gd_system.specs.declared.part.Part.TheVariants as part

-- What an element is.
abbrev pub element_of : Part → rules.Element
element_of (part.Segment from to capacity) = segment from.0 to.0 capacity
element_of (part.Receipt place capacity) = receipt place.0 capacity
element_of (part.Delivery place capacity) = delivery place.0 capacity
element_of (part.Pool place) = pool place.0
