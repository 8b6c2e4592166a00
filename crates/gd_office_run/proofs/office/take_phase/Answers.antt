use Rattle.std.proofs.Common.{◌∙◌, ◌++◌, List, length, ap, rules, sym}
use Rattle.std.proofs.lemmas.List.{length-map}
use Rattle.std.specs.Global.{Vec}
use Rattle.gd_office_part.specs.declared.kept.Receipt.{Receipt}
use Rattle.gd_office_part.specs.Sending.{events_by, events_of, lists_of}
use Rattle.gd_replies.specs.declared.reply.Reply.{Reply}
use Rattle.gd_office_run.specs.Shares.{plus, share_at}
use Rattle.gd_office_run.proofs.RunShares.{share_by_slots}
use Rattle.gd_office_run.proofs.Shapes.{shaped}
use Rattle.gd_office_run.proofs.office.take_phase.Goals as goal

pub rows_of-requires-clause-each : goal.rows_of-requires-clause-each
rows_of-requires-clause-each g c =
    shaped g.J.Days.days 1 c.args.phase.moment c.in_ok-given.given.desks.items c.in_ok-given.ensures.gives.1

pub hold-requires-clause-each : goal.hold-requires-clause-each
hold-requires-clause-each g c =
    let of_calls = c.in_ok-given.ensures.gives.0.0 in
    let lists = lists_of c.in_ok-given.given.lists.items in
    let long = sym (length-map lists events_of) ∙ ap length of_calls ∙ length-map c.args.phase.sessions.items (λ r. events_by r.party r.calls.items) in
    let each = length-map c.in_ok-given.given.lists.items (λ (v : Vec Receipt). v.items) in
    let same = c.in_ok-phase.ensures.len in
    search rules

pub returns-clause-ok : goal.returns-clause-ok
returns-clause-ok g c =
    let holding = c.in_ok-hold.ensures (length c.args.office.now.slots.items) c.requires.holding in (
      lists_of c.in_ok-given.given.lists.items,
      c.in_ok-given.given.desks.items,
      c.in_ok-given.ensures.gives,
      c.in_ok-tell.ensures.ok ∙ ap (λ (rows : List Reply). c.args.rows.now.items ++ rows) c.in_ok-told.ensures,
      holding.0,
      λ k below. holding.1 k below
          ∙ ap (plus (share_at c.args.holding.now k))
          (share_by_slots c.args.first c.in_ok-phase.phase c.args.phase (lists_of c.in_ok-given.given.lists.items) c.in_ok-given.given.desks.items k c.in_ok-phase.ensures.slots),
    )
