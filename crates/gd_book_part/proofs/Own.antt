-- The pipeline's own capacities.
use Rattle.std.proofs.Common.{◌≡◌, refl}
use Rattle.gd_rules.specs.Question.{Element}
use Rattle.gd_rules.specs.Question.Element.{Segment, Receipt, Delivery, Pool}
use Rattle.gd_system.specs.Pipeline.{capacity_of}
use Rattle.gd_question.specs.Known.{limit_of}

pub same_limit : (e : Element) → capacity_of e ≡ limit_of e
same_limit (Segment from to capacity) = refl
same_limit (Receipt place capacity) = refl
same_limit (Delivery place capacity) = refl
same_limit (Pool place) = refl
