use Rattle.gd_rules.proofs.FewWords as FewWords
use Rattle.gd_rules.proofs.laws.four_words_price_as_eight.Goals as goal

pub returns : goal.returns
returns c = λ q x prices h.
    let same = FewWords.right_among 4 4 q x prices h in (
      λ p. let r = same.0 p in record { small = r.small; priced = r.priced },
      λ p. same.1 (record { small = p.small; priced = p.priced }),
    )
