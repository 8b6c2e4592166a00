-- Cutting a line at its commas byte by byte, and taking the carriage return off its end.
use Rattle.std.proofs.Common.{◌≡◌, ◌≢◌, ℕ, zero, suc, ◌+◌, ◌-◌, ◌<◌, ◌≤◌, ◌==◌, Bool, true, false, if◌then◌else◌, List, [], ◌∷◌, ◌++◌, length, take, drop, get_or, refl, ap, sym, ◌∙◌, arith, add-one, drop-cons}
use Rattle.std.proofs.lemmas.Bool.{eqb-true, ne_eqb}
use Rattle.std.proofs.lemmas.List.{get_or-drop, length-drop, drop_all, take_all}
use Rattle.std.proofs.Math.Seq.{take-suc}
use Rattle.csv.specs.Records.{field_at}
use Rattle.gd_text_part.specs.Lines.{bare, cut_at_commas, is_mark, is_marked}
use Rattle.gd_text_part.specs.Rows.{field}

-- there is one byte at least
some : (line : List ℕ) → (length line == 0) ≡ false → length line ≡ length line - 1 + 1
some [] h = cc
some (c ∷ line) h = omega arith

pub bare_none : (line : List ℕ) → (length line == 0) ≡ true → line ≡ bare line
bare_none [] h = refl
bare_none (c ∷ line) h = absurd (omega (arith, eqb-true (length (c ∷ line)) 0 h))

-- a carriage return at the end is taken off
off : (line : List ℕ) (n : ℕ) → length line ≡ n + 1 → get_or line n 0 ≡ 13 → bare line ≡ take n line
off [] n e h = absurd (omega (arith, e))
off (c ∷ []) zero e h = rw h refl
off (c ∷ []) (suc n) e h = absurd (omega (arith, e))
off (c ∷ d ∷ line) zero e h = absurd (omega (arith, e))
off (c ∷ d ∷ line) (suc n) e h = ap (λ (l : List ℕ). c ∷ l) (off (d ∷ line) n (omega (arith, e)) h)

-- and nothing else
same : (line : List ℕ) (n : ℕ) → length line ≡ n + 1 → get_or line n 0 ≢ 13 → bare line ≡ line
same [] n e h = absurd (omega (arith, e))
same (c ∷ []) zero e h = rw (ne_eqb c 13 h) refl
same (c ∷ []) (suc n) e h = absurd (omega (arith, e))
same (c ∷ d ∷ line) zero e h = absurd (omega (arith, e))
same (c ∷ d ∷ line) (suc n) e h = ap (λ (l : List ℕ). c ∷ l) (same (d ∷ line) n (omega (arith, e)) h)

pub bare_off : (line : List ℕ) → (length line == 0) ≡ false → get_or line (length line - 1) 0 ≡ 13 → take (length line - 1) line ≡ bare line
bare_off line h e = sym (off line (length line - 1) (some line h) e)

pub bare_same : (line : List ℕ) → (length line == 0) ≡ false → get_or line (length line - 1) 0 ≢ 13 → line ≡ bare line
bare_same line h e = sym (same line (length line - 1) (some line h) e)

-- behind a byte that is no mark a line is marked as it is from there on
pub marks_on : (line : List ℕ) (at : ℕ) → at < length line → is_mark (get_or line at 0) ≡ false → is_marked (drop (at + 1) line) ≡ is_marked (drop at line)
marks_on line at h e = rw (drop-cons line at 0 h, add-one) (rw e refl)

-- the field at hand, from byte `begin` on
abbrev pub at_hand : List ℕ → ℕ → ℕ → List ℕ
at_hand line begin at = take (at - begin) (drop begin line)

grown : (line : List ℕ) (begin at : ℕ) → at < length line → begin ≤ at → at_hand line begin (at + 1) ≡ at_hand line begin at ++ get_or line at 0 ∷ []
grown line begin at h b =
    let next : at + 1 - begin ≡ suc (at - begin) = omega (arith, b) in
    let here : begin + (at - begin) ≡ at = omega (arith, b) in
    let within : at - begin < length (drop begin line) = omega (arith, length-drop begin line, h, b) in
    rw next (take-suc (drop begin line) (at - begin) 0 within
    ∙ ap (λ c. at_hand line begin at ++ c ∷ []) (get_or-drop begin line (at - begin) 0 ∙ ap (λ i. get_or line i 0) here))

-- another byte joins it
pub joins_it : (line : List ℕ) (begin at : ℕ) → at < length line → begin ≤ at → get_or line at 0 ≢ 44
    → cut_at_commas (at_hand line begin at) (drop at line) ≡ cut_at_commas (at_hand line begin (at + 1)) (drop (at + 1) line)
joins_it line begin at h b e =
    rw (grown line begin at h b) (rw (drop-cons line at 0 h, add-one) (rw (ne_eqb (get_or line at 0) 44 e) refl))

abbrev first_of : List (List ℕ) → List ℕ
first_of fields = field fields 1

-- the field before a comma, or that at the end, is the first one
front : (b : Bool) (begun : List ℕ) (more other : List (List ℕ)) → b ≡ true → first_of (if b then begun ∷ more else other) ≡ begun
unfolding field_at
front true begun more other e = refl
front false begun more other e = absurd cc

pub first_before : (line : List ℕ) (at : ℕ) → at < length line → get_or line at 0 ≡ 44
    → cut_at_commas (at_hand line 0 at) (drop at line) ≡ cut_at_commas [] line → take at line ≡ first_of (cut_at_commas [] line)
first_before line at h comma cut =
    let same : at - 0 ≡ at = omega arith in
    let here : first_of (cut_at_commas (at_hand line 0 at) (drop at line)) ≡ at_hand line 0 at =
    rw (drop-cons line at 0 h) (front (get_or line at 0 == 44) (at_hand line 0 at) _ _ (rw comma refl)) in
    sym (ap first_of (sym cut) ∙ here ∙ ap (λ n. take n line) same)

pub first_at_end : (line : List ℕ) (at : ℕ) → length line ≤ at
    → cut_at_commas (at_hand line 0 at) (drop at line) ≡ cut_at_commas [] line → line ≡ first_of (cut_at_commas [] line)
unfolding field_at
first_at_end line at high cut =
    let same : at - 0 ≡ at = omega arith in
    let here : first_of (cut_at_commas (at_hand line 0 at) (drop at line)) ≡ at_hand line 0 at = rw (drop_all at line high) refl in
    sym (ap first_of (sym cut) ∙ here ∙ ap (λ n. take n line) same ∙ take_all at line high)
