-- The rows of class totals, one after the other.
use Rattle.std.proofs.Common.{◌≡◌, ℕ, ◌+◌, List, [], ◌∷◌, ◌++◌, refl, sym, ap, ◌∙◌, add-one}
use Rattle.gd_rules.specs.Question.{Question}
use Rattle.gd_rules.specs.Schedule.{class_total}
use Rattle.gd_replies.specs.Replies.{totals_to}
use Rattle.gd_replies.specs.declared.reply.Reply.{Reply}
use Rattle.gd_replies.specs.declared.reply.Reply.TheVariants as reply

pub totals-zero : (q : Question) (x : List ℕ) → totals_to q x 0 ≡ []
unfolding totals_to
totals-zero q x = refl

pub totals-more : (q : Question) (x : List ℕ) (n : ℕ) → totals_to q x (n + 1) ≡ totals_to q x n ++ reply.Total (n + 1) (class_total q x (n + 1)) ∷ []
unfolding totals_to
totals-more q x n = ap (totals_to q x) (add-one n)

-- one total more
pub one_more : (good : Reply) (q : Question) (x : List ℕ) (n class total : ℕ) (old new : List Reply) → class ≡ n + 1 → total ≡ class_total q x class
    → old ≡ good ∷ totals_to q x n → new ≡ old ++ reply.Total class total ∷ [] → new ≡ good ∷ totals_to q x (n + 1)
one_more good q x n class total old new c t o e =
    e ∙ ap (λ (l : List Reply). l ++ reply.Total class total ∷ []) o
    ∙ ap (λ (v : ℕ). (good ∷ totals_to q x n) ++ reply.Total class v ∷ []) t
    ∙ ap (λ (v : ℕ). (good ∷ totals_to q x n) ++ reply.Total v (class_total q x v) ∷ []) c
    ∙ ap (λ (l : List Reply). good ∷ l) (sym (totals-more q x n))
