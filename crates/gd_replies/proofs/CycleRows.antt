-- The rows of cycles, one after the other.
use Rattle.std.proofs.Common.{◌≡◌, ℕ, ◌+◌, List, [], ◌∷◌, ◌++◌, refl, sym, ap, ◌∙◌, add-one}
use Rattle.gd_replies.specs.Calendars.{cycle_row, cycle_rows}
use Rattle.gd_replies.specs.declared.reply.Reply.{Reply}

pub cycles-zero : (moments : List ℕ) → cycle_rows moments 0 ≡ []
unfolding cycle_rows
cycles-zero moments = refl

cycles-more : (moments : List ℕ) (n : ℕ) → cycle_rows moments (n + 1) ≡ cycle_rows moments n ++ cycle_row moments (n + 1) ∷ []
unfolding cycle_rows
cycles-more moments n = ap (cycle_rows moments) (add-one n)

-- one cycle more
pub one_more : (moments : List ℕ) (n cycle : ℕ) (row : Reply) (old new : List Reply) → cycle ≡ n + 1 → row ≡ cycle_row moments cycle
    → old ≡ cycle_rows moments n → new ≡ old ++ row ∷ [] → new ≡ cycle_rows moments (n + 1)
one_more moments n cycle row old new c r o e =
    e ∙ ap (λ (l : List Reply). l ++ row ∷ []) o
    ∙ ap (λ (v : Reply). cycle_rows moments n ++ v ∷ []) (r ∙ ap (cycle_row moments) c)
    ∙ sym (cycles-more moments n)
