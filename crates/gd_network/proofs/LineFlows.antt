-- What a line's arcs carry of a flow within bounds.
use Rattle.std.proofs.Common.{◌≡◌, ℕ, ◌+◌, ◌*◌, ◌<◌, ◌≤◌, List, length, ap, sym, ◌∙◌, subst, arith, Result, Ok, Err}
use Rattle.std.specs.Prelude.{ℤ, pos, ◌≤ℤ◌, IfOk}
use borrow.Author.Differences.{ints}
use Rattle.gd_scale.specs.Sum.{sum_int}
use Rattle.gd_rules.specs.Question.{Question, line}
use Rattle.gd_network.specs.Arcs.{Net, IsNetwork, tenth_arc, least_part, most_part}
use Rattle.gd_network.specs.Flow.{flow_at, IsWithin}
use Rattle.gd_network.proofs.Wiring.{wired}
use Rattle.gd_network.proofs.Tens.{most_below}
use Rattle.gd_network.proofs.Allowed.{tenth_in, most_of_line, pos_most}

up_from : (a : ℕ) (y z : ℤ) → y ≡ pos a → y ≤ℤ z → pos 0 ≤ℤ z
up_from a y z e h = let g : pos a ≤ℤ z = subst (λ v. v ≤ℤ z) e h in omega (arith, ints)

up_to : (a b : ℕ) (y z : ℤ) → y ≡ pos a → a ≤ b → z ≤ℤ y → z ≤ℤ pos b
up_to a b y z e k h = let g : z ≤ℤ pos a = subst (λ v. z ≤ℤ v) e h in omega (arith, ints)

module _ (q : Question) (n : Net) (flow : List ℤ) (w : IsNetwork q n) (within : IsWithin n flow) (i : ℕ) (h : i < length q.lines) (m : ℕ) (same : m ≡ length q.elements) where
  pub low : (j : ℕ) → j < 10 → pos 0 ≤ℤ flow_at flow (m + (10 * i + j))
  low j k = subst (λ e. pos 0 ≤ℤ flow_at flow (e + (10 * i + j))) (sym same)
      (up_from (least_part (line q i).ceiling (line q i).floor j) _ _ ((wired q n w).line_least i j h k) (within.above (tenth_arc q i j) (tenth_in q n (wired q n w) i j h k)))

  pub high : (line q i).ceiling ≤ 1000000000 → (j : ℕ) → j < 10 → flow_at flow (m + (10 * i + j)) ≤ℤ pos 1000000000
  high few j k = subst (λ e. flow_at flow (e + (10 * i + j)) ≤ℤ pos 1000000000) (sym same)
      (up_to (most_part (line q i).ceiling j) 1000000000 _ _ ((wired q n w).line_most i j h k) (let p = most_below (line q i).ceiling j k in omega (arith, p, few)) (within.below (tenth_arc q i j) (tenth_in q n (wired q n w) i j h k)))

  pub total : (s : ℕ) → pos s ≡ sum_int 10 (λ j. flow_at flow (m + (10 * i + j))) → s ≤ (line q i).ceiling
  total s e = pos_most (line q i).ceiling s (sum_int 10 (λ j. flow_at flow (tenth_arc q i j)))
      (e ∙ ap (λ v. sum_int 10 (λ j. flow_at flow (v + (10 * i + j)))) same)
      (most_of_line q n flow (wired q n w) within i h)

-- What is said of a success may be weakened.
pub ok_then : {A E : Type 0} (P Q : A → Type 0) (r : Result A E) → ((a : A) → P a → Q a) → IfOk r P → IfOk r Q
ok_then P Q (Ok a) f h = f a h
ok_then P Q (Err e) f h = h
