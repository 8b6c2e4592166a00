-- Potentials under which no step gains.
use Rattle.std.specs.Prelude.{◌≡◌, ℕ, suc, ◌<◌, ◌<ℤ◌, ℤ, pos, Bool, List, length, IsTrue}
use Rattle.gd_scale.specs.Scale.{Scale, AtMost}
use Rattle.gd_rules.specs.Question.{Question}
use Rattle.gd_network.specs.Arcs.{Net, from_at, to_at, lower_at, upper_at, tenth_arc}
use Rattle.gd_network.specs.Flow.{flow_at}
use Rattle.gd_network.specs.Potential.{IsGains, IsStill}
use Rattle.gd_mincost.specs.Settling.{potential, most_potential}

-- No potential is too large.
abbrev pub AreSmall : {V : Type 0} → Scale V → (ℤ → V → Bool) → List V → Type 0
AreSmall s within labels =
    (node : ℕ) → node < length labels
    → IsTrue (within (pos most_potential) (potential s labels node))

-- Where this arc can carry more, that gains nothing.
abbrev pub IsStillAlong : {V : Type 0} → Scale V → (ℕ → ℕ → V) → Question → Net → List ℤ → List V → ℕ → Type 0
IsStillAlong {V} s unit q n flow labels a =
    (gain : ℕ → V) → IsGains s unit q gain → flow_at flow a <ℤ upper_at n a
    → AtMost s (s.plus (potential s labels (from_at n a)) (gain a)) (potential s labels (to_at n a))

-- Where it can carry less, that gains nothing.
abbrev pub IsStillBack : {V : Type 0} → Scale V → (ℕ → ℕ → V) → Question → Net → List ℤ → List V → ℕ → Type 0
IsStillBack {V} s unit q n flow labels a =
    (gain : ℕ → V) → IsGains s unit q gain → lower_at n a <ℤ flow_at flow a
    → AtMost s (s.plus (potential s labels (to_at n a)) (s.minus (gain a))) (potential s labels (from_at n a))

-- Carrying more along this arc gains nothing, whether it can or not.
abbrev pub GainsNoneAlong : {V : Type 0} → Scale V → (ℕ → ℕ → V) → Question → Net → List V → ℕ → Type 0
GainsNoneAlong {V} s unit q n labels a =
    (gain : ℕ → V) → IsGains s unit q gain
    → AtMost s (s.plus (potential s labels (from_at n a)) (gain a)) (potential s labels (to_at n a))

-- Carrying less along it gains nothing.
abbrev pub GainsNoneBack : {V : Type 0} → Scale V → (ℕ → ℕ → V) → Question → Net → List V → ℕ → Type 0
GainsNoneBack {V} s unit q n labels a =
    (gain : ℕ → V) → IsGains s unit q gain
    → AtMost s (s.plus (potential s labels (to_at n a)) (s.minus (gain a))) (potential s labels (from_at n a))

-- The arc behind this one stands for the next tenth of the same line.
pub record IsBeforeTenth (q : Question) (a : ℕ) : Type 0 where
  pub line : ℕ
  pub tenth : ℕ
  pub in_lines : line < length q.lines
  pub in_tenths : suc tenth < 10
  pub is : a ≡ tenth_arc q line tenth

-- No step that has room gains.
abbrev pub ShowsBest : {V : Type 0} → Scale V → (ℕ → ℕ → V) → Question → Net → List ℤ → List V → Type 0
ShowsBest {V} s unit q n flow labels =
    (gain : ℕ → V) → IsGains s unit q gain → IsStill s n flow gain (potential s labels)
