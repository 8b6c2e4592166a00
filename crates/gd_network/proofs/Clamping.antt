-- A schedule brought within bounds, entry by entry.
use Rattle.std.proofs.Common.{◌≡◌, ℕ, zero, suc, ◌+◌, ◌<◌, List, [], ◌∷◌, ◌++◌, length, get_or, take, refl, ap, ◌∙◌, arith, add-one}
use Rattle.gd_rules.specs.Question.{Line, no_line}
use Rattle.gd_network.specs.Beginning.{clamped, clamped_schedule}

pub length_brought : (lines : List Line) (x : List ℕ) → length (clamped_schedule lines x) ≡ length lines
length_brought [] x = refl
length_brought (l ∷ lines) [] = ap suc (length_brought lines [])
length_brought (l ∷ lines) (n ∷ x) = ap suc (length_brought lines x)

past : (lines : List Line) (x : List ℕ) (i : ℕ) → i < length lines → clamped_schedule (take (suc i) lines) x ≡ clamped_schedule (take i lines) x ++ clamped (get_or lines i no_line) (get_or x i 0) ∷ []
past [] x i h = absurd (omega arith)
past (l ∷ lines) [] zero h = refl
past (l ∷ lines) (n ∷ x) zero h = refl
past (l ∷ lines) [] (suc i) h = ap (λ ys. clamped l 0 ∷ ys) (past lines [] i (omega arith))
past (l ∷ lines) (n ∷ x) (suc i) h = ap (λ ys. clamped l n ∷ ys) (past lines x i (omega arith))

-- one line more
pub brought_more : (lines : List Line) (x : List ℕ) (i : ℕ) → i < length lines → clamped_schedule (take (i + 1) lines) x ≡ clamped_schedule (take i lines) x ++ clamped (get_or lines i no_line) (get_or x i 0) ∷ []
brought_more lines x i h = ap (λ k. clamped_schedule (take k lines) x) (add-one i) ∙ past lines x i h
