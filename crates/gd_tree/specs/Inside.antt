-- What a tree keeps.
use Rattle.std.specs.Prelude.{◌≡◌, ℕ, suc, ◌<◌, length, get_or}
use Rattle.gd_tree.specs.declared.Lift.{Lift}
use Rattle.gd_tree.specs.declared.Tree.TheInside.{Inside}
use Rattle.gd_tree.specs.Grown.{IsGrown}
use Rattle.gd_tree.specs.Lifts.{IsLift}
use Rattle.gd_tree.specs.View.{segments_of}

-- It grew place by place, and each place but the first has its lift.
pub record IsSound (t : Inside) : Type 0 where
  pub grown : IsGrown (length (segments_of t)) (segments_of t)
  pub counted : length t.lifts.items ≡ length (segments_of t)
  pub lifts : (k : ℕ) (l : Lift) → k < length t.lifts.items → l ≡ get_or t.lifts.items k l → IsLift (segments_of t) (suc k) l
