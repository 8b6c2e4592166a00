use Rattle.std.proofs.Common.{◌≡◌, Some, IfOk, refl, sym, subst}
use Rattle.gasday_part.specs.AnswerSeen.{answer_seen}
use Rattle.gasday_archive.specs.Archives.{migrated, no_store}
use Rattle.gasday_archive.specs.Runs.{TellsMigration, TellsOf}
use Rattle.gasday_archive.proofs.opened.tell_migration.Goals as goal

pub returns-in_default : goal.returns-in_default
returns-in_default g c = record {
  told = no_store;
  means = subst (λ o. TellsOf g.S.Store (TellsMigration g.S.Store) o c.unopened.result.archive no_store) (sym c.in_default.is) (c.unopened.ensures.archive, refl);
  is = subst (λ r. IfOk r (λ a. answer_seen a ≡ no_store)) (sym c.unopened.ensures.answer) c.of_no_store.ensures;
}

pub returns : goal.returns
returns g c = record {
  told = migrated c.migrate-carried.result;
  means = subst (λ o. TellsOf g.S.Store (TellsMigration g.S.Store) o (Some c.migrate-carried.new.conn) (migrated c.migrate-carried.result)) (sym c.in-Ok.is) (λ clean. (c.migrate-carried.ensures.clean clean, (c.migrate-carried.result, c.migrate-carried.ensures.migrated clean, refl)));
  is = c.of_migration.ensures;
}
