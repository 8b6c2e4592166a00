use Rattle.std.proofs.Common.{◌∙◌, refl}
use Rattle.gd_office_part.proofs.Asking.{numbers-fit, are_sent, are_stepped, are_counted}
use Rattle.gd_office_part.proofs.Placing.{starts_placed}
use Rattle.gd_office_part.proofs.threads.send.Goals as goal

pub send_all-requires-clause-slots : goal.send_all-requires-clause-slots
send_all-requires-clause-slots g c lifetimes within =
    rw (c.as_slice.ensures.value ∙ c.in_ok-starts.ensures) (starts_placed c.args.slots.now c.args.sessions.now c.args.rows.now (c.if-not-are_of_slots.ensures.0 refl))

pub count_all-requires : goal.count_all-requires
count_all-requires g c =
    numbers-fit c.args.sessions.now c.as_slice.result.now c.args.rows.now c.in_ok-all.all.items
    (c.as_slice.ensures.value ∙ c.in_ok-starts.ensures) c.in_ok-all.ensures.sent c.as_slice-2.result.now c.requires
    (c.as_slice-2.ensures.value ∙ c.in_ok-numbers.ensures.numbers)

pub returns-clause-sent : goal.returns-clause-sent
returns-clause-sent g c =
    are_sent c.args.sessions.now c.as_slice.result.now c.args.rows.now c.in_ok-all.all.items
    (c.as_slice.ensures.value ∙ c.in_ok-starts.ensures) c.in_ok-all.ensures.sent _ c.in_ok-numbers.ensures.lists

pub returns-clause-stepped : goal.returns-clause-stepped
returns-clause-stepped g c =
    are_stepped c.args.sessions.now c.as_slice.result.now c.args.rows.now c.in_ok-all.all.items
    (c.as_slice.ensures.value ∙ c.in_ok-starts.ensures) c.in_ok-all.ensures.sent g.J.Days.days _ c.requires c.in_ok-numbers.ensures.lists c.in_ok-all.ensures.stepped

pub returns-clause-counted : goal.returns-clause-counted
returns-clause-counted g c =
    are_counted c.args.sessions.now c.as_slice.result.now c.args.rows.now c.in_ok-all.all.items
    (c.as_slice.ensures.value ∙ c.in_ok-starts.ensures) c.in_ok-all.ensures.sent _ _ c.requires c.in_ok-numbers.ensures.lists
    (c.count_all.ensures.numbers ∙ c.as_slice-2.ensures.value ∙ c.in_ok-numbers.ensures.numbers)
