use Rattle.gasday_part.proofs.Writing.{told_none}
use Rattle.gasday_part.proofs.engine.write_answer.Goals as goal

pub returns-in-Err : goal.returns-in-Err
returns-in-Err g c told h =
    let some = c.tell_no_memory.ensures.front in
    rw c.tell_no_memory.ensures.status (told_none _ _ told some.0 some.2)

pub returns-in-Ok : goal.returns-in-Ok
returns-in-Ok g c told is =
    let seen = rw c.in-Ok.is at is in
    rw (← seen) (rw c.as_slice.ensures.value at c.tell.ensures)
