use Rattle.std.proofs.Common.{refl, ◌∙◌}
use Rattle.std.proofs.lemmas.Bool.{false≢true}
use Rattle.gd_journal_store.proofs.making.make.Goals as goal

pub returns-then-not-is_journal-clause-made : goal.returns-then-not-is_journal-clause-made
returns-then-not-is_journal-clause-made g c clean =
    (λ none. false≢true (c.if-is_empty.ensures.1 (c.schema.ensures.value ∙ none)), λ is. false≢true (c.if-not-is_journal.ensures.1 is), λ up. (refl, refl))
