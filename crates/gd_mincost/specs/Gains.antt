-- What arcs and steps gain, and what a flow is worth.
use Rattle.std.specs.Prelude.{◌≡◌, ℕ, ◌*◌, ◌<◌, ℤ, pos, Bool, List, [], ◌∷◌, length, get_or, cond, IsTrue}
use Rattle.gd_rules.specs.Limits.{most_dekatherms}
use Rattle.gd_scale.specs.Scale.{Scale, total_below, multiple}
use Rattle.gd_rules.specs.Question.{Question}
use Rattle.gd_network.specs.Arcs.{Net}
use Rattle.gd_network.specs.Flow.{flow_at}
use Rattle.gd_network.specs.Potential.{IsGains}
use Rattle.gd_network.specs.declared.walks.Step.{Step}
use Rattle.gd_labels.specs.Links.{most_gain}

-- x is what the arc of this number gains.
abbrev pub IsGainAt : {V : Type 0} → Scale V → (ℕ → ℕ → V) → Question → ℕ → V → Type 0
IsGainAt {V} s unit q a x = (gain : ℕ → V) → IsGains s unit q gain → x ≡ gain a

abbrev pub gain_at : {V : Type 0} → Scale V → List V → ℕ → V
gain_at s gains a = get_or gains a s.none

-- So many gains, none of them too large for links.
pub record AreGains {V : Type 0} (s : Scale V) (within : ℤ → V → Bool) (count : ℕ) (gains : List V) : Type 0 where
  pub size : length gains ≡ count
  pub small : (a : ℕ) → a < count → IsTrue (within (pos most_gain) (gain_at s gains a))

-- What a step gains: along an arc what the arc gains, back along it the negative.
abbrev pub gained : {V : Type 0} → Scale V → List V → Step → V
gained s gains step = cond step.back (s.minus (gain_at s gains step.arc)) (gain_at s gains step.arc)

-- What the steps of a walk gain together.
abbrev pub gain_along : {V : Type 0} → Scale V → List V → List Step → V
gain_along s gains [] = s.none
gain_along s gains (step ∷ walk) = s.plus (gained s gains step) (gain_along s gains walk)

-- What a flow is worth: each arc's amount times its gain, together.
abbrev pub value : {V : Type 0} → Scale V → List V → Net → List ℤ → V
value s gains n flow = total_below s (length n) (λ a. multiple s (flow_at flow a) (gain_at s gains a))

-- The greatest size of what a flow over so many arcs is worth.
abbrev pub most_worth : ℕ → ℕ
most_worth arcs = arcs * (most_gain * most_dekatherms)
