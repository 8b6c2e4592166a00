-- Lines that come in parts.
use Rattle.std.proofs.Common.{◌≡◌, ℕ, ◌==◌, false, true, Bool, List, [], ◌∷◌, ◌++◌, append-nil, refl, sym, ap, ◌∙◌, if◌then◌else◌, eqb-true}
use Rattle.std.proofs.lemmas.List.{append_assoc}
use Rattle.std.specs.List.{AllByRecursion}
use Rattle.gd_serving.specs.Lines.{cut, HasNoEnd, text_of_lines}

abbrev pub Cut : Type 0
Cut = List (List ℕ) × List ℕ

-- bytes behind what was cut
abbrev pub cut_on : Cut → List ℕ → Cut
cut_on c ys = (c.0 ++ (cut c.1 ys).0, (cut c.1 ys).1)

cut_at : (begun : List ℕ) (b : ℕ) (xs ys : List ℕ) (t : Bool) → cut [] (xs ++ ys) ≡ cut_on (cut [] xs) ys → cut (begun ++ b ∷ []) (xs ++ ys) ≡ cut_on (cut (begun ++ b ∷ []) xs) ys
    → (if t then (begun ∷ (cut [] (xs ++ ys)).0, (cut [] (xs ++ ys)).1) else cut (begun ++ b ∷ []) (xs ++ ys))
    ≡ cut_on (if t then (begun ∷ (cut [] xs).0, (cut [] xs).1) else cut (begun ++ b ∷ []) xs) ys
cut_at begun b xs ys true ended on = ap (λ (c : Cut). (begun ∷ c.0, c.1)) ended
cut_at begun b xs ys false ended on = on

pub cut_append : (begun xs ys : List ℕ) → cut begun (xs ++ ys) ≡ cut_on (cut begun xs) ys
cut_append begun [] ys = refl
cut_append begun (b ∷ xs) ys = cut_at begun b xs ys (b == 10) (cut_append [] xs ys) (cut_append (begun ++ b ∷ []) xs ys)

-- a line that ends
pub cut_ended : (begun line rest : List ℕ) → HasNoEnd line → cut begun (line ++ 10 ∷ rest) ≡ ((begun ++ line) ∷ (cut [] rest).0, (cut [] rest).1)
cut_ended begun [] rest all = ap (λ l. (l ∷ (cut [] rest).0, (cut [] rest).1)) (sym (append-nil begun))
cut_ended begun (c ∷ line) rest all =
    rw all.0 (cut_ended (begun ++ c ∷ []) line rest all.1 ∙ ap (λ l. (l ∷ (cut [] rest).0, (cut [] rest).1)) (append_assoc begun (c ∷ []) line))

-- and one that doesn't
pub cut_unended : (begun line : List ℕ) → HasNoEnd line → cut begun line ≡ ([], begun ++ line)
cut_unended begun [] all = ap (λ (l : List ℕ). ([], l)) (sym (append-nil begun))
cut_unended begun (c ∷ line) all =
    rw all.0 (cut_unended (begun ++ c ∷ []) line all.1 ∙ ap (λ (l : List ℕ). ([], l)) (append_assoc begun (c ∷ []) line))

-- lines that were put together are cut into themselves
pub cut_again : (lines : List (List ℕ)) → AllByRecursion HasNoEnd lines → cut [] (text_of_lines lines) ≡ (lines, [])
cut_again [] all = refl
cut_again (line ∷ lines) all =
    ap (cut []) (append_assoc line (10 ∷ []) (text_of_lines lines)) ∙ cut_ended [] line (text_of_lines lines) all.0
    ∙ ap (λ (c : Cut). (line ∷ c.0, c.1)) (cut_again lines all.1)

no_end_more : (begun : List ℕ) (b : ℕ) → HasNoEnd begun → (b == 10) ≡ false → HasNoEnd (begun ++ b ∷ [])
no_end_more [] b none e = (e, tt)
no_end_more (c ∷ begun) b none e = (none.0, no_end_more begun b none.1 e)

abbrev pub HasNoEnds : Cut → Type 0
HasNoEnds c = AllByRecursion HasNoEnd c.0 × HasNoEnd c.1

no_ends_at : (begun : List ℕ) (b : ℕ) (bytes : List ℕ) (t : Bool) → (b == 10) ≡ t → HasNoEnd begun → HasNoEnds (cut [] bytes) → ((b == 10) ≡ false → HasNoEnds (cut (begun ++ b ∷ []) bytes))
    → HasNoEnds (if t then (begun ∷ (cut [] bytes).0, (cut [] bytes).1) else cut (begun ++ b ∷ []) bytes)
no_ends_at begun b bytes true e none first on = ((none, first.0), first.1)
no_ends_at begun b bytes false e none first on = on e

-- no line that was cut has a line feed in it
pub no_ends : (begun bytes : List ℕ) → HasNoEnd begun → HasNoEnds (cut begun bytes)
no_ends begun [] none = (tt, none)
no_ends begun (b ∷ bytes) none = no_ends_at begun b bytes (b == 10) refl none (no_ends [] bytes tt) (λ e. no_ends (begun ++ b ∷ []) bytes (no_end_more begun b none e))

-- what was cut, put together
abbrev pub uncut : Cut → List ℕ
uncut c = text_of_lines c.0 ++ c.1

uncut_at : (begun : List ℕ) (b : ℕ) (bytes : List ℕ) (t : Bool) → (b == 10) ≡ t → uncut (cut [] bytes) ≡ bytes → uncut (cut (begun ++ b ∷ []) bytes) ≡ (begun ++ b ∷ []) ++ bytes
    → uncut (if t then (begun ∷ (cut [] bytes).0, (cut [] bytes).1) else cut (begun ++ b ∷ []) bytes) ≡ begun ++ b ∷ bytes
uncut_at begun b bytes true e first on =
    let lines = text_of_lines (cut [] bytes).0 in
    append_assoc (begun ++ 10 ∷ []) lines (cut [] bytes).1 ∙ append_assoc begun (10 ∷ []) (lines ++ (cut [] bytes).1)
    ∙ ap (λ l. begun ++ 10 ∷ l) first ∙ ap (λ c. begun ++ c ∷ bytes) (sym (eqb-true b 10 e))
uncut_at begun b bytes false e first on = on ∙ append_assoc begun (b ∷ []) bytes

pub uncut_again : (begun bytes : List ℕ) → uncut (cut begun bytes) ≡ begun ++ bytes
uncut_again begun [] = sym (append-nil begun)
uncut_again begun (b ∷ bytes) = uncut_at begun b bytes (b == 10) refl (uncut_again [] bytes) (uncut_again (begun ++ b ∷ []) bytes)
