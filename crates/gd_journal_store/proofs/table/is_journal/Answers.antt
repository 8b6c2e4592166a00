use Rattle.gd_journal_store.proofs.table.is_journal.Goals as goal

pub returns : goal.returns
returns g c = rw (← c.schema.ensures.value) c.is_journal_schema.ensures
