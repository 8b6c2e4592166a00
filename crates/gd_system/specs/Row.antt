-- What a system keeps of an element.
use Rattle.std.specs.Prelude.{◌≡◌, ℕ, ◌<◌, length, get_or, Some, None, slice_get}
use Rattle.gd_rules.specs.Question.Element.{Pool as pool}
use Rattle.gd_system.specs.Pipeline.{Pipeline, point_element, names_of, operator_at}
use Rattle.gd_system.specs.Route.{element_at}
use Rattle.gd_system.specs.declared.system.Row.{Row}
use Rattle.gd_system.specs.declared.system.Row.TheVariants as row

abbrev pub IsRow : Pipeline → ℕ → Row → Type 0
IsRow p e row.Segment = (e < length p.tree) × (element_at p e ≡ get_or p.tree e (pool 0)) × (slice_get (names_of p) e ≡ slice_get p.segments e) × (operator_at p e ≡ None)
IsRow p e (row.Point name point) = (element_at p e ≡ point_element point.kind point.place.0 point.capacity) × (slice_get (names_of p) e ≡ Some name) × (operator_at p e ≡ Some point.operator)
IsRow p e (row.Pool name held) = (element_at p e ≡ pool held.place.0) × (slice_get (names_of p) e ≡ Some name) × (operator_at p e ≡ Some held.operator)
