-- The definitions at a worked example: one segment of 100, ample points, two lines.
use Rattle.std.proofs.Common.{◌≡◌, ℕ, zero, suc, [], ◌∷◌, map, refl, arith, Bool, true, false, inl}
use Rattle.std.specs.Prelude.{pos, negsuc}
use Rattle.gd_rules.specs.Question.{Question}
use Rattle.gd_rules.specs.Question.Element.{Segment, Receipt, Delivery}
use Rattle.gd_rules.specs.Cut.{excess}
use Rattle.gd_question.specs.Nodes.{AllBring}
use Rattle.gd_network.specs.Flow.{net, arc_excess}
use Rattle.gd_network.specs.Beginning.{clamped_schedule}
use Rattle.gd_network.specs.Links.{links_of}
use Rattle.gd_network.proofs.Networks.{network_of, flow_of, schedule_of}

one : Question
one = record {
  elements = Segment 0 1 100 ∷ Receipt 0 1000 ∷ Delivery 1 1000 ∷ [];
  lines = record { origin = 1; dest = 2; route = 0 ∷ []; class = 1; floor = 0; ceiling = 80 } ∷ record { origin = 1; dest = 2; route = 0 ∷ []; class = 4; floor = 33; ceiling = 50 } ∷ [];
}

one-grown : AllBring one
unfolding one
one-grown zero h = inl (refl, omega arith)
one-grown (suc zero) h = omega arith
one-grown (suc (suc zero)) h = omega arith
one-grown (suc (suc (suc e))) h = absurd (omega arith)

-- nodes 0 and 1 are the places, 2 the receipt point, 3 the delivery point
one-ends : (map (λ a. a.from) (network_of one) ≡ 0 ∷ 2 ∷ 1 ∷ 3 ∷ 3 ∷ 3 ∷ 3 ∷ 3 ∷ 3 ∷ 3 ∷ 3 ∷ 3 ∷ 3 ∷ 3 ∷ 3 ∷ 3 ∷ 3 ∷ 3 ∷ 3 ∷ 3 ∷ 3 ∷ 3 ∷ 3 ∷ [])
    × (map (λ a. a.to) (network_of one) ≡ 1 ∷ 0 ∷ 3 ∷ 2 ∷ 2 ∷ 2 ∷ 2 ∷ 2 ∷ 2 ∷ 2 ∷ 2 ∷ 2 ∷ 2 ∷ 2 ∷ 2 ∷ 2 ∷ 2 ∷ 2 ∷ 2 ∷ 2 ∷ 2 ∷ 2 ∷ 2 ∷ [])
unfolding one
one-ends = (refl, refl)

-- the floor of 33 fills six tenths of 5 and 3 of the seventh
one-lowers : map (λ a. a.lower) (network_of one) ≡ pos 0 ∷ pos 0 ∷ pos 0 ∷ pos 0 ∷ pos 0 ∷ pos 0 ∷ pos 0 ∷ pos 0 ∷ pos 0 ∷ pos 0 ∷ pos 0 ∷ pos 0 ∷ pos 0 ∷ pos 5 ∷ pos 5 ∷ pos 5 ∷ pos 5 ∷ pos 5 ∷ pos 5 ∷ pos 3 ∷ pos 0 ∷ pos 0 ∷ pos 0 ∷ []
unfolding one
one-lowers = refl

-- the elements' capacities, and tenths of 8 and of 5
one-uppers : map (λ a. a.upper) (network_of one) ≡ pos 100 ∷ pos 1000 ∷ pos 1000 ∷ pos 8 ∷ pos 8 ∷ pos 8 ∷ pos 8 ∷ pos 8 ∷ pos 8 ∷ pos 8 ∷ pos 8 ∷ pos 8 ∷ pos 8 ∷ pos 5 ∷ pos 5 ∷ pos 5 ∷ pos 5 ∷ pos 5 ∷ pos 5 ∷ pos 5 ∷ pos 5 ∷ pos 5 ∷ pos 5 ∷ []
unfolding one
one-uppers = refl

-- a quantity of 63 for line 1, and of 52, above its ceiling, for line 2
one-flow : flow_of one (63 ∷ 52 ∷ []) ≡ pos 115 ∷ pos 115 ∷ pos 115 ∷ pos 8 ∷ pos 8 ∷ pos 8 ∷ pos 8 ∷ pos 8 ∷ pos 8 ∷ pos 8 ∷ pos 7 ∷ pos 0 ∷ pos 0 ∷ pos 5 ∷ pos 5 ∷ pos 5 ∷ pos 5 ∷ pos 5 ∷ pos 5 ∷ pos 5 ∷ pos 5 ∷ pos 5 ∷ pos 7 ∷ []
unfolding one
one-flow = refl

one-back : schedule_of one (flow_of one (63 ∷ 52 ∷ [])) ≡ 63 ∷ 52 ∷ []
unfolding one
one-back = refl

-- the receipt point and its place inside: line 2 has to carry out 33, the segment lets 100 out
abbrev first_half : ℕ → Bool
first_half zero = true
first_half (suc zero) = false
first_half (suc (suc zero)) = true
first_half (suc (suc (suc v))) = false

one-excess : (arc_excess first_half (network_of one) ≡ negsuc 66) × (excess one (record { places = true ∷ false ∷ []; ends = false ∷ true ∷ false ∷ [] }) ≡ negsuc 66)
unfolding one
one-excess = (refl, refl)

one-balances : net first_half (network_of one) (flow_of one (63 ∷ 52 ∷ [])) ≡ pos 0
unfolding one
one-balances = refl

-- too short: the missing entry is 0, and comes up to the floor; too long and too large: the third entry is dropped, the second comes down to the ceiling
one-clamped_schedule : (clamped_schedule one.lines (63 ∷ []) ≡ 63 ∷ 33 ∷ []) × (clamped_schedule one.lines (81 ∷ 52 ∷ 7 ∷ []) ≡ 80 ∷ 50 ∷ []) × (clamped_schedule one.lines [] ≡ 0 ∷ 33 ∷ [])
unfolding one
one-clamped_schedule = (refl, refl, refl)

-- the segment and the receipt point's arc at place 0, and the delivery point's arc with all tenths at the delivery point
one-links : (links_of (network_of one) 0 ≡ 0 ∷ 1 ∷ []) × (links_of (network_of one) 3 ≡ 2 ∷ 3 ∷ 4 ∷ 5 ∷ 6 ∷ 7 ∷ 8 ∷ 9 ∷ 10 ∷ 11 ∷ 12 ∷ 13 ∷ 14 ∷ 15 ∷ 16 ∷ 17 ∷ 18 ∷ 19 ∷ 20 ∷ 21 ∷ 22 ∷ [])
unfolding one
one-links = (refl, refl)
