use Rattle.std.proofs.Common.{◌≡◌, ◌∙◌, ℕ, ◌+◌, ◌<◌, List, [], ◌∷◌, ◌++◌, length, map, take, get_or, sym, ap, ap₂, arith}
use Rattle.std.proofs.Math.ListN.{set}
use Rattle.std.proofs.Math.Seq.{map-set_same}
use Rattle.std.proofs.lemmas.List.{take_more, take_more_set, map-append}
use Rattle.gd_office_part.specs.declared.numbers.Numbers.{Numbers}
use Rattle.gd_office_part.specs.Seen.{Session}
use Rattle.gd_office_part.specs.Sending.{kept_of}
use Rattle.gd_office_part.proofs.threads.count_all.Goals as goal

-- one session more has its numbers
numbers_more : (sessions : List Session) (numbers : List Numbers) (at : ℕ) (s : Session) (n : Numbers) → at < length sessions → at < length numbers
    → s.numbers ≡ get_or numbers at n → map (λ t. t.numbers) (take at sessions) ≡ take at numbers
    → map (λ t. t.numbers) (take (at + 1) (set sessions at s)) ≡ take (at + 1) numbers
numbers_more sessions numbers at s n within inside is before =
    let f : Session → Numbers = λ t. t.numbers in
    ap (λ (l : List Session). map f l) (take_more_set sessions at s within)
    ∙ map-append f (take at sessions) (s ∷ [])
    ∙ ap₂ (λ (l : List Numbers) (m : Numbers). l ++ m ∷ []) before is
    ∙ sym (take_more numbers at n inside)

pub loop-at-preserved : goal.loop-at-preserved
loop-at-preserved g c =
    let count = c.count.ensures in
    record {
      numbers = numbers_more c.loop-at.sessions c.args.numbers.now c.loop-at.at _ _ (omega arith) (omega arith) (count.numbers) c.loop-at.invariant.numbers;
      kept = map-set_same kept_of c.loop-at.sessions c.loop-at.at _ c.index-sessions-at.result count.kept ∙ c.loop-at.invariant.kept;
    }
