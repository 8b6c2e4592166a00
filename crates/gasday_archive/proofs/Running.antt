-- A run of all calls is one of the first of them.
use Rattle.std.proofs.Common.{◌≡◌, List, [], length, Result, Ok, Err, OnErr, sym, subst, arith}
use Rattle.std.proofs.lemmas.List.{take_all}
use Rattle.gd_course.specs.Course.{Runs, RunsInPart}
use Rattle.gd_day.specs.Calls.{Call}
use Rattle.gd_machine.specs.Day.{Day}
use Rattle.gd_machine.specs.Headline.{Holds}
use Rattle.gd_machine.specs.History.{History}
use Rattle.gd_replies.specs.declared.reply.Reply.{Reply}

whole : (day : Day) (calls : List Call) (rows : List Reply) (after : History) → Runs day [] calls rows after → Holds day after → RunsInPart day [] calls rows
whole day calls rows after runs holds = (length calls, after, subst (λ cs. Runs day [] cs rows after) (sym (take_all (length calls) calls (omega arith))) runs, holds)

-- behind a refusal that told nothing more
pub part_of_all : {V E : Type 0} (day : Day) (calls : List Call) (rows told : List Reply) (after : History) (r : Result V E) → Runs day [] calls rows after → Holds day after → told ≡ rows → OnErr r (RunsInPart day [] calls told)
part_of_all day calls rows told after (Ok v) runs holds same = tt
part_of_all day calls rows told after (Err e) runs holds same = subst (RunsInPart day [] calls) (sym same) (whole day calls rows after runs holds)
