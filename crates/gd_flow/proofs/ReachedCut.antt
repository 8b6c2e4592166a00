-- A search that no step continues is a cut's.
use Rattle.std.proofs.Common.{◌≡◌, ◌≢◌, ℕ, ◌<◌, List, length, get_or, refl, sym, ◌∙◌, subst, arith, inl, inr, Bool, true, false, cond}
use Rattle.std.specs.Prelude.{ℤ, pos, ◌-ℤ◌, ◌<ℤ◌, ◌≤ℤ◌}
use borrow.Author.Differences.{ints}
use Rattle.std.proofs.lemmas.Bool.{false≢true}
use Rattle.gd_network.specs.Arcs.{Net, from_at, to_at, lower_at, upper_at}
use Rattle.gd_network.specs.Beginning.{Laid}
use Rattle.gd_network.specs.Flow.{flow_at, IsEdge, IsShort}
use Rattle.gd_network.specs.declared.walks.Step.{Step}
use Rattle.gd_network.specs.Steps.{tail_of, head_of, room, Mends}
use Rattle.gd_flow.specs.declared.search.Search.{Search}
use Rattle.gd_flow.specs.Search.{find_at, IsSearch, AreTried}
use Rattle.gd_flow.proofs.Amiss.{above_cases, above_least}

no_room : (x y : ℤ) → (pos 0 <ℤ (x -ℤ y) → ⊥) → x ≤ℤ y
no_room x y h = elim (above_cases (x -ℤ y)) [
  | inl e ↦ let a : (x -ℤ y) ≤ℤ pos 0 = above_least (x -ℤ y) 0 (omega (arith, e)) in omega (arith, ints)
  | inr g ↦ absurd (h g)
]

module _ (l : Laid) (flow : List ℤ) (s : Search) (search : IsSearch l flow s) (tried : AreTried l.arcs flow s (length s.finds.items)) where
  -- a step from a marked node to one that isn't has no room
  stopped : (step : Step) → step.arc < length l.arcs → get_or s.marks.items (tail_of l.arcs step) false ≡ true → get_or s.marks.items (head_of l.arcs step) false ≡ false → pos 0 <ℤ room l.arcs flow step → ⊥
  stopped step arc in_set out has_room =
      let w = search.found (tail_of l.arcs step) in_set in
      false≢true (sym out ∙ tried w.0 step w.1 arc (sym w.2) has_room)

  pub edge : IsEdge l.arcs flow (λ v. get_or s.marks.items v false)
  edge = record {
    into = λ a h out in_set. no_room (flow_at flow a) (lower_at l.arcs a) (stopped (record { arc = a; back = true }) h in_set out);
    out = λ a h in_set out. no_room (upper_at l.arcs a) (flow_at flow a) (stopped (record { arc = a; back = false }) h in_set out);
  }

-- a node that is not found is not marked
pub unmarked : (l : Laid) (flow : List ℤ) (s : Search) → IsSearch l flow s → (v : ℕ) → ((k : ℕ) → k < length s.finds.items → (find_at s k).node ≢ v) → get_or s.marks.items v false ≡ false
unmarked l flow s search v none = by_mark (get_or s.marks.items v false) refl
  where
    by_mark : (b : Bool) → get_or s.marks.items v false ≡ b → get_or s.marks.items v false ≡ false
    by_mark true e = let w = search.found v e in absurd (none w.0 w.1 w.2)
    by_mark false e = e

-- the arc that the search was to mend
pub short : (n : Net) (flow : List ℤ) (inside : ℕ → Bool) (step : Step) → Mends n flow step → inside (head_of n step) ≡ true → inside (tail_of n step) ≡ false → IsShort n flow inside step.arc
short n flow inside step (inl m) in_set out = inl (
  subst (λ b. inside (cond b (to_at n step.arc) (from_at n step.arc)) ≡ false) m.0 out,
  subst (λ b. inside (cond b (from_at n step.arc) (to_at n step.arc)) ≡ true) m.0 in_set,
  m.1,
)
short n flow inside step (inr m) in_set out = inr (
  subst (λ b. inside (cond b (from_at n step.arc) (to_at n step.arc)) ≡ true) m.0 in_set,
  subst (λ b. inside (cond b (to_at n step.arc) (from_at n step.arc)) ≡ false) m.0 out,
  m.1,
)
