-- What a fault says can't be so of an allowed schedule.
use Rattle.std.proofs.Common.{refl}
use Rattle.std.specs.Prelude.{ℤ}
use Rattle.gd_rules.specs.Question.{Element, element}
use Rattle.gd_rules.specs.Question.Element.{Segment, Receipt, Delivery, Pool}
use Rattle.gd_rules.specs.Schedule.{Holds, load}
use Rattle.gd_question.specs.Known.{limit_of}
use Rattle.gd_schedule.specs.Exact.{WithinLimit, IsBalanced, FaultsAreBroken}
use Rattle.gd_schedule.specs.declared.Broken.TheVariants.{Shape, BelowFloor, AboveCeiling, OverCapacity, Unbalanced, OutOfMemory}

within : (x : Element) (z : ℤ) → Holds x z → WithinLimit (limit_of x) z
within (Segment from to capacity) z h = h
within (Receipt place capacity) z h = h
within (Delivery place capacity) z h = h
within (Pool place) z h = tt

balanced : (x : Element) (z : ℤ) → Holds x z → IsBalanced (limit_of x) z
balanced (Segment from to capacity) z h = tt
balanced (Receipt place capacity) z h = tt
balanced (Delivery place capacity) z h = tt
balanced (Pool place) z h = h

pub broken : FaultsAreBroken
broken q x Shape n h a = h a.shape
broken q x (BelowFloor i) n h a = h.1.1 (a.floors i h.1.0)
broken q x (AboveCeiling i) n h a = h.2.1 (a.ceilings i h.2.0)
broken q x (OverCapacity e) n h a = h.1.1 (within (element q e.0) (load q x e.0) (a.loads e.0 h.1.0))
broken q x (Unbalanced e) n h a = h.2.1 (balanced (element q e.0) (load q x e.0) (a.loads e.0 h.2.0))
broken q x OutOfMemory n h a = n refl
