-- A test of two prices decides whether they are one.
use Rattle.std.proofs.Common.{◌≡◌, ℤ, List, ◌&&◌, refl, ap, ap₂, int_eq}
use Rattle.std.specs.Bool.{Decides}
use Rattle.std.specs.Cmp.Lexicographic.{pointwise}
use Rattle.std.proofs.lemmas.Bool.Decides.{Decides-int_eq}
use Rattle.std.proofs.lemmas.Slice.Eq.{slice_eq-Decides}
use Rattle.gd_cost.specs.declared.lex.Lex.{Lex}
use Rattle.gd_cost.specs.declared.pair.Pair.{Pair}
use Rattle.gd_system.proofs.Same.{both}

abbrev words_from : List ℤ → Lex 8
words_from words = record { words = words }

words_decided : (a b : Lex 8) → Decides (pointwise int_eq a.words b.words) (a ≡ b)
words_decided a b =
    let it = slice_eq-Decides Decides-int_eq a.words b.words _ refl in
    (λ e. ap words_from (it.0 e), λ r. it.1 (ap (λ (v : Lex 8). v.words) r))

abbrev Tariff : Type 0
Tariff = Pair (Lex 8) (Lex 8)

abbrev tariff_from : Lex 8 → Lex 8 → Tariff
tariff_from first second = record { first = first; second = second }

pub tariffs_decided : (a b : Tariff) → Decides (pointwise int_eq a.first.words b.first.words && pointwise int_eq a.second.words b.second.words) (a ≡ b)
tariffs_decided a b =
    both _ _ (words_decided a.first b.first) (words_decided a.second b.second) (λ p q. ap₂ tariff_from p q)
    (λ r. ap (λ (v : Tariff). v.first) r) (λ r. ap (λ (v : Tariff). v.second) r)
