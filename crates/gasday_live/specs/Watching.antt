-- Faulty rows among lines, and a desk that is watched for them.
use Rattle.std.specs.Prelude.{◌≡◌, ℕ, ◌==◌, Bool, ◌&&◌, ◌||◌, List, length, nat_lt}
use Rattle.std.specs.List.{list_any}
use Rattle.gd_serving.specs.Yields.{Yield}
use Rattle.gd_live.specs.Lines.{Gives}
use Rattle.gd_live.specs.Seen.{at_desk}
use Rattle.gasday_live.specs.declared.watched.Watched.{Watched}

-- Whether more is told of a line than the echo of an empty one, and no reply is kept: its row was faulty.
abbrev pub is_fault : Yield → Bool
is_fault y = (length y.replies == 0) && nat_lt 1 (length y.told)

-- whether a row was faulty
abbrev pub any_fault : List Yield → Bool
any_fault ys = list_any is_fault ys

-- The line gives the desk this, and whether a row was faulty is known behind it.
pub record WatchedGives {V : Type 0} (s : Watched V) (line : List ℕ) (t : Watched V) (y : Yield) : Type 0 where
  pub gives : Gives (at_desk s.desk) line (at_desk t.desk) y
  pub fault : t.has_fault ≡ (s.has_fault || is_fault y)
