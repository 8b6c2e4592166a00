-- What the fields of a table stand for.
use Rattle.std.specs.Prelude.{◌≡◌, ℕ, Bool, List, position}
use Rattle.std.specs.List.{IsDistinct}
use Rattle.std.specs.Map.{keys_of}
use Rattle.std.specs.HashMap.{HashMap, get}

-- No two keys are equal, and of each key the position is known.
pub record IsIndexed {K V S : Type 0} (eq : K → K → Bool) (entries : List (K × V)) (positions : HashMap K ℕ S) : Type 0 where
  pub distinct : IsDistinct eq (keys_of entries)
  pub placed : (key : K) → get eq positions key ≡ position (eq key) (keys_of entries)
