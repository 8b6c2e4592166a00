use Rattle.std.proofs.Common.{◌∙◌, map, ap, rules}
use Rattle.gd_office_part.specs.Seen.{Session}
use Rattle.gd_office_part.specs.Sending.{lists_of}
use Rattle.gd_office_run.proofs.Opening.{receipts_of, steps_of, counts_are, as_many, written}
use Rattle.gd_office_run.proofs.phase.run_phase.Goals as goal

pub returns-clause-gives : goal.returns-clause-gives
returns-clause-gives g c =
    let sent = rw c.as_mut_slice.ensures.value at c.in_ok-lists.ensures.sent in
    let lists = lists_of c.in_ok-lists.lists.items in
    let mine = receipts_of c.in_ok-sessions.sessions.items c.as_slice-rows.result.now lists c.in_ok-sessions.ensures sent in
    let stepped = rw c.as_mut_slice.ensures.value at c.in_ok-lists.ensures.stepped in
    let steps = steps_of g.J.Days.days c.in_ok-sessions.sessions.items c.as_slice-rows.result.now lists c.in_ok-sessions.ensures stepped in (
      (rw c.as_slice-rows.ensures.value at mine, rw c.as_slice-rows.ensures.value at steps),
      c.in_ok-desks.ensures.each g.J.Days.days c.args.phase.now.moment c.in_ok-given.ensures.each,
      (let a = c.in_ok-desks.ensures.len in let b = c.in_ok-given.ensures.len in search rules),
    )

pub returns-clause-counted : goal.returns-clause-counted
returns-clause-counted g c =
    let sent = rw c.as_mut_slice.ensures.value at c.in_ok-lists.ensures.sent in
    let counted = rw c.as_mut_slice.ensures.value at c.in_ok-lists.ensures.counted in
    let lists = lists_of c.in_ok-lists.lists.items in
    let mine = receipts_of c.in_ok-sessions.sessions.items c.as_slice-rows.result.now lists c.in_ok-sessions.ensures sent in
    let after = c.send.new.sessions in
    let long = as_many after c.as_mut_slice.result.now c.in_ok-lists.ensures.kept ∙ c.as_mut_slice.ensures.len in
    ap (map (λ (x : Session). x.numbers)) (written c.in_ok-sessions.sessions.len after _ long)
    ∙ counts_are c.in_ok-sessions.sessions.items c.as_slice-rows.result.now lists after c.in_ok-sessions.ensures mine counted
