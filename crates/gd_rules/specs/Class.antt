-- The priority class of a line (the stated tariff): what its contract buys, and how much of that its ends and route use.
use Rattle.std.specs.Prelude.{ℕ, ◌+◌, Bool, ◌==◌, ◌&&◌, List, if◌then◌else◌}
use Rattle.std.specs.List.{list_all, list_any}

-- Firm service between two primary ends over the primary route between them, or interruptible service at a rate band from 1 to 5.
pub data Service : Type 0 where
  Firm : (origin dest : ℕ) (primary : List ℕ) → Service
  Interruptible : (band : ℕ) → Service

-- Each segment of the route lies on the primary route. An empty route does.
abbrev pub lies_on : List ℕ → List ℕ → Bool
lies_on primary route = list_all (λ k. list_any (λ s. s == k) primary) route

-- 1 is primary firm: both ends are the primary ones. 2 is secondary in path, 3 any other firm line. 4 to 8 are interruptible, by band.
abbrev pub class_of : Service → ℕ → ℕ → List ℕ → ℕ
class_of (Firm primary_origin primary_dest primary) origin dest route =
    if (origin == primary_origin) && (dest == primary_dest) then 1
    else if lies_on primary route then 2
    else 3
class_of (Interruptible band) origin dest route = 3 + band
