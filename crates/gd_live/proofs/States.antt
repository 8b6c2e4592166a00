-- The states of csv's machine alone, without fields.
use Rattle.std.proofs.Common.{◌≡◌, ℕ, Bool, true, false, List, [], ◌∷◌, refl, if◌then◌else◌}
use Rattle.csv.specs.Machine.{step, is_end, fields_after, field_after}
use Rattle.csv.specs.Reading.{default_config}
use Rattle.csv.specs.declared.parser.State.{State}
use Rattle.gd_live.specs.TextLines.{Left, left_by}

-- the state that bytes leave behind a state
abbrev pub state_behind : State → List ℕ → State
state_behind s [] = s
state_behind s (c ∷ bytes) = state_behind (step default_config s c).0 bytes

chosen : (b : Bool) (x y : Left) (s : State) → x.0 ≡ s → y.0 ≡ s → (if b then x else y).0 ≡ s
chosen true x y s p q = p
chosen false x y s p q = q

-- it is the one that they leave, whatever the fields are
pub left_state : (s : State) (fields : List (List ℕ)) (field bytes : List ℕ) → (left_by s fields field bytes).0 ≡ state_behind s bytes
left_state s fields field [] = refl
left_state s fields field (c ∷ bytes) =
    chosen (is_end (step default_config s c).1) _ _ _ (left_state (step default_config s c).0 [] [] bytes)
    (left_state (step default_config s c).0 (fields_after (step default_config s c).1 fields field) (field_after (step default_config s c).1 c field) bytes)
