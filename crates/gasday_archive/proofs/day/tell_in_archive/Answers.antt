use Rattle.std.proofs.Common.{inl, inr, refl}
use Rattle.gasday_archive.specs.Archives.{store_fault}
use Rattle.gasday_part.specs.AnswerSeen.{answer_seen}
use Rattle.gasday_archive.proofs.day.tell_in_archive.Goals as goal

pub returns-in-Ok-clause-made : goal.returns-in-Ok-clause-made
returns-in-Ok-clause-made g c = record {
  told = answer_seen c.tell_calls.result;
  means = λ clean. inl (c.make.new.conn, c.in-Ok.ensures.made (c.tell_calls.ensures.clean clean), c.tell_calls.ensures.kept clean);
  is = refl;
}

pub returns-in-Err-clause-made : goal.returns-in-Err-clause-made
returns-in-Err-clause-made g c = record {
  told = store_fault c.in-Err.fault;
  means = λ clean. inr (c.in-Err.fault, c.in-Err.ensures.made clean, refl);
  is = c.of_store_fault.ensures;
}
