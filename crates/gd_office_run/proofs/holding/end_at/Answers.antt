use Rattle.std.proofs.Common.{◌≡◌, ap, map, arith, ◌∙◌}
use Rattle.gd_office_part.specs.Seen.{Session}
use Rattle.gd_office_part.specs.Sending.{lists_of}
use Rattle.gd_office_run.specs.Shares.{share_at}
use Rattle.gd_office_run.proofs.Shares.{took, same_at, share_is, ends_by}
use Rattle.gd_office_run.proofs.holding.end_at.Goals as goal

pub returns-clause-ends : goal.returns-clause-ends
returns-clause-ends g c =
    let holding = c.args.holding.now in let at = c.args.at in
    let of = c.requires.there.1 in let below = c.requires.there.2 in
    let s = c.take_at-sessions in let l = c.take_at-lists in let n = c.take_at-numbers in let d = c.take_at-desk in
    let sessions = took holding.sessions.items at s.result (omega (arith, below, of.0)) (s.ensures.taken s.result) in
    let lists = took holding.lists.items at l.result (omega (arith, below, of.1)) (l.ensures.taken l.result) in
    let numbers = took holding.numbers.items at n.result (omega (arith, below, of.2)) (n.ensures.taken n.result) in
    let desk = took holding.desks.items at d.result (omega (arith, below, of.3)) (d.ensures.taken d.result) in
    ends_by g.J.Days.days c.args.slot.now.number c.end_slot.result (share_at holding at) d.result.items (lists_of l.result.items) c.as_slice.result.now (map (λ (x : Session). x.numbers) s.result.items)
    (ap (map (λ (x : Session). x.numbers)) sessions) (ap lists_of lists) (c.as_slice.ensures.value ∙ numbers) desk c.end_slot.ensures

pub returns-clause-others : goal.returns-clause-others
returns-clause-others g c k above =
    let holding = c.args.holding.now in
    let apart : k ≡ c.args.at → ⊥ = λ e. omega (arith, above, e) in
    let s = c.take_at-sessions in let l = c.take_at-lists in let n = c.take_at-numbers in let d = c.take_at-desk in
    share_is _ (share_at holding k)
    (ap (map (λ (x : Session). x.numbers)) (same_at holding.sessions.items s.new.holding.items k s.ensures.len (λ v. s.ensures.others k v apart)))
    (ap lists_of (same_at holding.lists.items l.new.holding.items k l.ensures.len (λ v. l.ensures.others k v apart)))
    (same_at holding.numbers.items n.new.holding.items k n.ensures.len (λ v. n.ensures.others k v apart))
    (same_at holding.desks.items d.new.holding.items k d.ensures.len (λ v. d.ensures.others k v apart))
