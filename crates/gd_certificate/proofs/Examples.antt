-- The definitions at worked examples.
use Rattle.std.proofs.Common.{◌≡◌, ℕ, [], ◌∷◌, refl, true, false}
use Rattle.std.specs.Prelude.{pos, negsuc}
use Rattle.gd_rules.specs.Question.{Question}
use Rattle.gd_rules.specs.Question.Element.{Segment, Receipt, Delivery, Pool}
use Rattle.gd_scale.specs.Sizes.{whole}
use Rattle.gd_rules.specs.Cut.{excess, has_end, has_place}
use Rattle.gd_rules.specs.Priced.{crossed}
use Rattle.gd_tree.specs.Levels.{RisesBy}
use Rattle.gd_system.specs.Pipeline.{Pipeline}
use Rattle.gd_units.specs.declared.service.Kind.TheVariants as kind
use Rattle.gd_certificate.specs.Payments.{origin_price}
use Rattle.gd_certificate.specs.Levels.{level}
use Rattle.gd_certificate.specs.Cutting.{Members, side_of}
use Rattle.gd_certificate.specs.Explained.{IsShaped}

-- a segment from place 0 to place 1, a receipt point at 0, a delivery point and a pool at 1
pipe : Pipeline
pipe = record {
  places = (65 ∷ []) ∷ (66 ∷ []) ∷ [];
  segments = (83 ∷ []) ∷ [];
  tree = Segment 0 1 1000 ∷ [];
  points = (82 ∷ [], record { kind = kind.Receipt; place = record { 0 = 0 }; operator = []; capacity = 1000 }) ∷ (68 ∷ [], record { kind = kind.Delivery; place = record { 0 = 1 }; operator = []; capacity = 1000 }) ∷ [];
  pools = (80 ∷ [], record { place = record { 0 = 1 }; operator = [] }) ∷ [];
}

-- 100 at least into the pool, and out of it 40 to so many
floored : ℕ → Question
floored ceiling = record {
  elements = Segment 0 1 1000 ∷ Receipt 0 1000 ∷ Delivery 1 1000 ∷ Pool 1 ∷ [];
  lines =
      record { origin = 1; dest = 3; route = 0 ∷ []; class = 1; floor = 100; ceiling = 100 }
      ∷ record { origin = 3; dest = 2; route = []; class = 1; floor = 40; ceiling = ceiling } ∷ [];
}

-- all but the pool
cut : Members
cut = record { places = true ∷ true ∷ []; points = true ∷ true ∷ []; pools = false ∷ [] }

shaped : IsShaped pipe cut
unfolding pipe cut
shaped = (refl, refl, refl)

-- the points are elements 1 and 2, and the pool is element 3
ends : (has_end (side_of pipe cut) 0 ≡ false) × (has_end (side_of pipe cut) 1 ≡ true) × (has_end (side_of pipe cut) 2 ≡ true) × (has_end (side_of pipe cut) 3 ≡ false) × (has_place (side_of pipe cut) 1 ≡ true)
unfolding pipe cut
ends = (refl, refl, refl, refl, refl)

-- 60 more must leave than can; with 100 out of the pool none
excesses : (excess (floored 40) (side_of pipe cut) ≡ pos 60) × (excess (floored 100) (side_of pipe cut) ≡ pos 0)
unfolding pipe cut floored
excesses = (refl, refl)

-- Levels at a price of 5 on the segment: what the first line pays is their difference, and the pool's price of 2; the second gets that back.
levels : (RisesBy whole (level whole (pos 0 ∷ pos 5 ∷ [])) (pos 5) (Segment 0 1 1000))
    × (crossed whole (floored 40) (pos 5 ∷ pos 0 ∷ pos 0 ∷ pos 2 ∷ []) 0 ≡ pos 7)
    × (crossed whole (floored 40) (pos 5 ∷ pos 0 ∷ pos 0 ∷ pos 2 ∷ []) 1 ≡ negsuc 1)
    × (origin_price whole (Pool 1) (pos 2) ≡ negsuc 1)
unfolding floored
levels = (refl, refl, refl, refl)
