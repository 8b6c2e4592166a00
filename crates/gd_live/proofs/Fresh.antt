-- Where a record begins nothing is at hand.
use Rattle.std.proofs.Common.{◌≡◌, ℕ, ◌==◌, Bool, true, false, List, [], ◌∷◌, ◌++◌, refl, ap, if◌then◌else◌, ◌∙◌}
use Rattle.csv.specs.Machine.{step, is_end, fields_after, field_after, in_field, start_field, start_record, ends_with}
use Rattle.csv.specs.Reading.{default_config}
use Rattle.csv.specs.declared.parser.Config.{Config}
use Rattle.csv.specs.declared.parser.State.{State}
use Rattle.csv.specs.declared.parser.State.TheVariants as st
use Rattle.csv.specs.declared.parser.Action.{Action}
use Rattle.csv.specs.declared.parser.Action.TheVariants as act
use Rattle.gd_live.specs.TextLines.{Left, left_by, IsClosed}

abbrev cfg : Config
cfg = default_config

abbrev None : List (List ℕ) → List ℕ → Type 0
None fields field = (fields ≡ []) × (field ≡ [])

-- where a record begins, or may, nothing is at hand
abbrev Fresh : State → List (List ℕ) → List ℕ → Type 0
Fresh st.StartRecord fields field = None fields field
Fresh st.AfterCr fields field = None fields field
Fresh st.StartField fields field = Unit {0}
Fresh st.InField fields field = Unit {0}
Fresh st.InQuoted fields field = Unit {0}
Fresh st.AfterQuote fields field = Unit {0}
Fresh st.InEscape fields field = Unit {0}
Fresh st.InComment fields field = ⊥

-- what a step leaves
abbrev After : State × Action → ℕ → List (List ℕ) → List ℕ → Type 0
After (s, act.EndRecord) c fields field = Fresh s [] []
After (s, act.Skip) c fields field = Fresh s fields field
After (s, act.Copy) c fields field = Fresh s fields (field ++ c ∷ [])
After (s, act.EndField) c fields field = Fresh s (fields ++ field ∷ []) []

choose : (b : Bool) (x y : State × Action) (c : ℕ) (fields : List (List ℕ)) (field : List ℕ) → After x c fields field → After y c fields field → After (if b then x else y) c fields field
choose true x y c fields field p q = p
choose false x y c fields field p q = q

ended : (b : Bool) → Fresh (if b then st.AfterCr else st.StartRecord) [] []
ended true = (refl, refl)
ended false = (refl, refl)

in_field_after : (c : ℕ) (fields : List (List ℕ)) (field : List ℕ) → After (in_field cfg c) c fields field
in_field_after c fields field = choose (c == 44) _ _ c fields field tt (choose (ends_with cfg.terminator c) _ _ c fields field (ended (c == 13)) tt)

start_field_after : (c : ℕ) (fields : List (List ℕ)) (field : List ℕ) → After (start_field cfg c) c fields field
start_field_after c fields field = choose (c == 34) _ _ c fields field tt (in_field_after c fields field)

start_record_after : (c : ℕ) (fields : List (List ℕ)) (field : List ℕ) → None fields field → After (start_record cfg c) c fields field
start_record_after c fields field none = choose (ends_with cfg.terminator c) _ _ c fields field none (start_field_after c fields field)

step_after : (s : State) (c : ℕ) (fields : List (List ℕ)) (field : List ℕ) → Fresh s fields field → After (step cfg s c) c fields field
step_after st.StartRecord c fields field fresh = start_record_after c fields field fresh
step_after st.StartField c fields field fresh = start_field_after c fields field
step_after st.InField c fields field fresh = in_field_after c fields field
step_after st.InQuoted c fields field fresh = choose (c == 34) _ _ c fields field tt tt
step_after st.InEscape c fields field fresh = tt
step_after st.AfterQuote c fields field fresh = choose (c == 34) _ _ c fields field tt (in_field_after c fields field)
step_after st.InComment c fields field fresh = absurd fresh
step_after st.AfterCr c fields field fresh = choose (c == 10) _ _ c fields field fresh (start_record_after c fields field fresh)

abbrev FreshLeft : Left → Type 0
FreshLeft l = Fresh l.0 l.1 l.2

next : (r : State × Action) (c : ℕ) (fields : List (List ℕ)) (field text : List ℕ) → After r c fields field → ((s : State) (f : List (List ℕ)) (p : List ℕ) → Fresh s f p → FreshLeft (left_by s f p text))
    → FreshLeft (if is_end r.1 then left_by r.0 [] [] text else left_by r.0 (fields_after r.1 fields field) (field_after r.1 c field) text)
next (s, act.EndRecord) c fields field text after all = all s [] [] after
next (s, act.Skip) c fields field text after all = all s fields field after
next (s, act.Copy) c fields field text after all = all s fields (field ++ c ∷ []) after
next (s, act.EndField) c fields field text after all = all s (fields ++ field ∷ []) [] after

fresh_left : (text : List ℕ) (s : State) (fields : List (List ℕ)) (field : List ℕ) → Fresh s fields field → FreshLeft (left_by s fields field text)
fresh_left [] s fields field fresh = fresh
fresh_left (c ∷ text) s fields field fresh = next (step cfg s c) c fields field text (step_after s c fields field fresh) (fresh_left text)

whole : (l : Left) → FreshLeft l → l.0 ≡ st.StartRecord → l ≡ (st.StartRecord, [], [])
whole (st.StartRecord, fields, field) fresh e = ap (λ (f : List (List ℕ)). (st.StartRecord, f, field)) fresh.0 ∙ ap (λ (p : List ℕ). (st.StartRecord, [], p)) fresh.1
whole (st.AfterCr, fields, field) fresh e = absurd cc
whole (st.StartField, fields, field) fresh e = absurd cc
whole (st.InField, fields, field) fresh e = absurd cc
whole (st.InQuoted, fields, field) fresh e = absurd cc
whole (st.AfterQuote, fields, field) fresh e = absurd cc
whole (st.InEscape, fields, field) fresh e = absurd cc
whole (st.InComment, fields, field) fresh e = absurd fresh

-- the state alone tells whether a text is closed
pub closed_by_state : (text : List ℕ) → (left_by st.StartRecord [] [] text).0 ≡ st.StartRecord → IsClosed text
closed_by_state text e = whole (left_by st.StartRecord [] [] text) (fresh_left text st.StartRecord [] [] (refl, refl)) e
