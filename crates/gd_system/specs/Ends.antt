-- Ends of a route in memory, ends between which there is none, and the one route.
use Rattle.std.specs.Prelude.{◌≡◌, ◌≢◌, ◌<◌, ◌≤◌, IsTrue, ℕ, List, length, Some, Ok}
use Rattle.gd_rules.specs.Tree.{CanSend, CanTake, IsRoute}
use Rattle.gd_rules.specs.Question.{place_of}
use Rattle.gd_tree.specs.Grown.{has_route}
use Rattle.gd_system.specs.Pipeline.{Pipeline, elements_of, element_number}
use Rattle.gd_system.specs.declared.part.Ends.{Ends}
use Rattle.gd_system.specs.Route.{element_at, ends_of}

-- A point or pool where gas may enter, another where it may leave, the places that they hang on, and a route from the one to the other.
pub record AreEnds (p : Pipeline) (e : Ends) : Type 0 where
  pub origin_known : e.origin.0 < length (elements_of p)
  pub dest_known : e.dest.0 < length (elements_of p)
  pub origin_placed : e.origin_place.0 ≤ length p.tree
  pub dest_placed : e.dest_place.0 ≤ length p.tree
  pub origin_hangs : place_of (element_at p e.origin.0) ≡ e.origin_place.0
  pub dest_hangs : place_of (element_at p e.dest.0) ≡ e.dest_place.0
  pub sends : CanSend (element_at p e.origin.0)
  pub takes : CanTake (element_at p e.dest.0)
  pub apart : e.origin.0 ≢ e.dest.0
  pub routed : IsTrue (has_route (elements_of p) (length p.tree) e.origin_place.0 e.dest_place.0)

-- The names are those of two different points or pools, gas may enter at the one and leave at the other, and no route leads from the one to the other.
pub record AreParted (p : Pipeline) (origin dest : List ℕ) : Type 0 where
  pub from : ℕ
  pub to : ℕ
  pub origin_found : element_number p origin ≡ Some from
  pub dest_found : element_number p dest ≡ Some to
  pub sends : CanSend (element_at p from)
  pub takes : CanTake (element_at p to)
  pub apart : from ≢ to
  pub parted : (route : List ℕ) → IsRoute (elements_of p) (place_of (element_at p from)) route (place_of (element_at p to)) → ⊥

-- These segments, and no others, lead along their directions between the places of the ends that the names tell.
pub record IsTheRoute (p : Pipeline) (origin dest : List ℕ) (route : List ℕ) : Type 0 where
  pub ends : Ends
  pub told : ends_of p origin dest ≡ Ok ends
  pub leads : IsRoute (elements_of p) ends.origin_place.0 route ends.dest_place.0
  pub only : (other : List ℕ) → IsRoute (elements_of p) ends.origin_place.0 other ends.dest_place.0 → other ≡ route
