-- The flow of a schedule balances, and a flow that balances carries through each element the load of its schedule.
use Rattle.std.proofs.Common.{◌≡◌, ℕ, ◌<◌, List, length, refl, sym, ap, ◌∙◌}
use Rattle.std.specs.Prelude.{ℤ, pos}
use Rattle.gd_scale.specs.Sum.{sum_int}
use Rattle.gd_rules.specs.Question.{Question, line}
use Rattle.gd_rules.specs.Schedule.{quantity, load}
use Rattle.gd_rules.specs.Tree.{HasLines}
use Rattle.gd_scale.proofs.IntSums.{int_same, all_pos}
use Rattle.gd_question.specs.Nodes.{AllBring}
use Rattle.gd_schedule.proofs.Balance.{by_parts_same, loads_balance, balanced_are_loads}
use Rattle.gd_network.specs.Arcs.{Net, tenth_arc}
use Rattle.gd_network.specs.Flow.{flow_at, IsCirculation, IsFlowOf, IsScheduleOf, part_of}
use Rattle.gd_network.proofs.Wiring.{IsWired}
use Rattle.gd_network.proofs.Tens.{part_ten}
use Rattle.gd_network.proofs.Parts.{net_parts}

-- The flow of a schedule balances.
pub flow_balances : (q : Question) (n : Net) (schedule : List ℕ) (flow : List ℤ) → HasLines q → IsWired q n → IsFlowOf q schedule flow → IsCirculation n flow
flow_balances q n x flow lines w of inside =
    net_parts q n w inside flow
    ∙ by_parts_same q inside (λ e. flow_at flow e) (load q x) (λ i. sum_int 10 (λ j. flow_at flow (tenth_arc q i j))) (λ i. pos (quantity x i)) of.loads
    (λ i h. int_same 10 (λ j. flow_at flow (tenth_arc q i j)) (λ j. pos (part_of (line q i).ceiling (quantity x i) j)) (λ j k. of.parts i j h k)
    ∙ all_pos 10 (λ j. part_of (line q i).ceiling (quantity x i) j)
    ∙ ap pos (part_ten (line q i).ceiling (quantity x i)))
    ∙ loads_balance q x inside lines

-- A flow that balances carries through each element the load of its schedule.
pub loads_are : (q : Question) (n : Net) (flow : List ℤ) (schedule : List ℕ) → HasLines q → AllBring q → IsWired q n → IsCirculation n flow → IsScheduleOf q flow schedule
    → (e : ℕ) → e < length q.elements → load q schedule e ≡ flow_at flow e
loads_are q n flow x lines grown w balance of =
    balanced_are_loads q x (λ k. flow_at flow k) lines grown
    (λ inside.
    by_parts_same q inside (λ k. flow_at flow k) (λ k. flow_at flow k) (λ i. pos (quantity x i)) (λ i. sum_int 10 (λ j. flow_at flow (tenth_arc q i j))) (λ k _. refl) of.sums
    ∙ sym (net_parts q n w inside flow) ∙ balance inside)
