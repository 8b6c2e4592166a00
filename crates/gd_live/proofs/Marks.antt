-- The byte order mark at the start of a text.
use Rattle.std.proofs.Common.{◌≡◌, ℕ, ◌==◌, ◌&&◌, Bool, true, false, List, [], ◌∷◌, take, drop, refl, ◌∙◌, sym}
use Rattle.std.specs.Cmp.Lexicographic.{pointwise}
use Rattle.csv.specs.Reading.{is_bom, strip_bom}

abbrev pub begins : List ℕ → Bool
begins text = pointwise ◌==◌ (take 3 text) (0xEF ∷ 0xBB ∷ 0xBF ∷ [])

-- three tests are one
tests : (a b c : Bool) → (a && (b && (c && true))) ≡ ((a && b) && c)
tests true true true = refl
tests true true false = refl
tests true false c = refl
tests false b c = refl

-- fewer bytes are no mark
few : (a : Bool) → ¬ ((a && false) ≡ true)
few true e = cc
few false e = cc

fewer : (a b : Bool) → ¬ ((a && (b && false)) ≡ true)
fewer true b e = few b e
fewer false b e = cc

pub marked : (text : List ℕ) → begins text ≡ true → drop 3 text ≡ strip_bom text
unfolding strip_bom
marked [] h = absurd cc
marked (a ∷ []) h = absurd (few (a == 0xEF) h)
marked (a ∷ b ∷ []) h = absurd (fewer (a == 0xEF) (b == 0xBB) h)
marked (a ∷ b ∷ c ∷ text) h =
    let is : is_bom a b c ≡ true = sym (tests (a == 0xEF) (b == 0xBB) (c == 0xBF)) ∙ h in
    rw is refl

pub unmarked : (text : List ℕ) → begins text ≡ false → text ≡ strip_bom text
unfolding strip_bom
unmarked [] h = refl
unmarked (a ∷ []) h = refl
unmarked (a ∷ b ∷ []) h = refl
unmarked (a ∷ b ∷ c ∷ text) h =
    let is : is_bom a b c ≡ false = sym (tests (a == 0xEF) (b == 0xBB) (c == 0xBF)) ∙ h in
    rw is refl
