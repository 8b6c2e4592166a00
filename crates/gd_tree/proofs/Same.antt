-- What it is for two segments to be the same.
use Rattle.std.proofs.Common.{rules, ◌≡◌, refl, List, [], ◌∷◌, map, ap}
use Rattle.std.specs.Bool.{Decides}
use Rattle.gd_rules.specs.Question.{Element}
use Rattle.gd_rules.specs.Question.Element.{Segment as segment, Receipt, Delivery, Pool}
use Rattle.gd_tree.specs.View.{segment_of}
use Rattle.gd_tree.specs.declared.Segment.{Segment}
use Rattle.gd_tree.specs.contracts.SegmentPartialEq.TheImpl as impl

pub segments_decided : (a b : Segment) → Decides (impl.eq-value.it a b) (a ≡ b)
segments_decided a b = (λ e. search rules, λ e. search rules)

-- A segment's place among the elements gives it back.
abbrev back : Element → Segment
back (segment from to capacity) = record { from = from; to = to; capacity = capacity }
back (Receipt place capacity) = record { from = 0; to = 0; capacity = 0 }
back (Delivery place capacity) = record { from = 0; to = 0; capacity = 0 }
back (Pool place) = record { from = 0; to = 0; capacity = 0 }

there_and_back : (xs : List Segment) → map back (map segment_of xs) ≡ xs
there_and_back [] = refl
there_and_back (x ∷ xs) = ap (λ (t : List Segment). x ∷ t) (there_and_back xs)

pub segments_same : (xs ys : List Segment) → map segment_of xs ≡ map segment_of ys → xs ≡ ys
segments_same xs ys e = rw (← there_and_back xs, ← there_and_back ys) (ap (map back) e)
