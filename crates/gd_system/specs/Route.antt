-- The ends that two names tell, or why nothing flows from one to the other.
use Rattle.std.specs.Prelude.{ℕ, Bool, true, false, ◌==◌, ◌||◌, List, length, get_or, Option, Some, None, if◌then◌else◌, Result, Ok, Err}
use Rattle.gd_rules.specs.Question as rules
use Rattle.gd_rules.specs.Question.Element.{Segment as segment, Receipt as receipt, Delivery as delivery, Pool as pool}
use Rattle.gd_rules.specs.Question.{place_of}
use Rattle.gd_tree.specs.Grown.{has_route}
use Rattle.gd_system.specs.Pipeline.{Pipeline, elements_of, element_number}
use Rattle.gd_system.specs.declared.part.Ends.{Ends}
use Rattle.gd_system.specs.declared.RouteFault.{RouteFault}
use Rattle.gd_system.specs.declared.RouteFault.TheVariants.{UnknownEnd, WrongEnd, SameEnd, NoRoute}

abbrev pub element_at : Pipeline → ℕ → rules.Element
element_at p e = get_or (elements_of p) e (pool 0)

abbrev pub is_segment : rules.Element → Bool
is_segment (segment from to capacity) = true
is_segment (receipt place capacity) = false
is_segment (delivery place capacity) = false
is_segment (pool place) = false

abbrev pub is_receipt : rules.Element → Bool
is_receipt (segment from to capacity) = false
is_receipt (receipt place capacity) = true
is_receipt (delivery place capacity) = false
is_receipt (pool place) = false

abbrev pub is_delivery : rules.Element → Bool
is_delivery (segment from to capacity) = false
is_delivery (receipt place capacity) = false
is_delivery (delivery place capacity) = true
is_delivery (pool place) = false

abbrev pub ends_at : Pipeline → ℕ → ℕ → Ends
ends_at p origin dest = record {
  origin = record { 0 = origin };
  dest = record { 0 = dest };
  origin_place = record { 0 = place_of (element_at p origin) };
  dest_place = record { 0 = place_of (element_at p dest) };
}

-- Ends of these numbers, or the first reason why nothing flows from one to the other.
abbrev pub ends_between : Pipeline → ℕ → ℕ → Result Ends RouteFault
ends_between p origin dest =
    if is_segment (element_at p origin) || is_segment (element_at p dest) then Err UnknownEnd
    else if is_delivery (element_at p origin) || is_receipt (element_at p dest) then Err WrongEnd
    else if origin == dest then Err SameEnd
    else if has_route (elements_of p) (length p.tree) (place_of (element_at p origin)) (place_of (element_at p dest)) then Ok (ends_at p origin dest)
    else Err NoRoute

abbrev pub ends_found : Pipeline → Option ℕ → Option ℕ → Result Ends RouteFault
ends_found p None dest = Err UnknownEnd
ends_found p (Some origin) None = Err UnknownEnd
ends_found p (Some origin) (Some dest) = ends_between p origin dest

-- The ends that two names tell, or the first refusal.
abbrev pub ends_of : Pipeline → List ℕ → List ℕ → Result Ends RouteFault
ends_of p origin dest = ends_found p (element_number p origin) (element_number p dest)
