use Rattle.std.proofs.Common.{inl, inr, ◌∷◌, [], take}
use Rattle.std.proofs.KnownBytes.{Appends-trans}
use Rattle.gd_replies.specs.Lines.{lines_of}
use Rattle.gasday_part.specs.Answers.{no_memory}
use Rattle.gasday_part.proofs.engine.tell_short.Goals as goal

pub returns-in-Err-clause-told : goal.returns-in-Err-clause-told
returns-in-Err-clause-told g c = inr c.write_bytes.ensures.front

pub returns-in-Ok-clause-told : goal.returns-in-Ok-clause-told
returns-in-Ok-clause-told g c =
    let some = c.tell_no_memory.ensures.front in
    inl (some.0, Appends-trans _ _ _ c.args.block.now (take some.0 (lines_of (no_memory ∷ []))) c.in-Ok.ensures.all some.2)
