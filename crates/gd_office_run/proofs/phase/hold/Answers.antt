use Rattle.std.proofs.Common.{◌≡◌, ◌∙◌, length, ap, rules}
use Rattle.std.specs.List.{range_with_len}
use Rattle.std.specs.Global.{Vec}
use Rattle.std.proofs.lemmas.List.{length-map}
use Rattle.std.proofs.lemmas.List.FromFn.{length-range_with_len}
use Rattle.gd_office_part.specs.declared.kept.Receipt.{Receipt}
use Rattle.gd_office_part.specs.Sending.{lists_of}
use Rattle.gd_office_run.specs.Shares.{Share, share_at, plus}
use Rattle.gd_office_run.specs.Runs.{counts_of}
use Rattle.gd_office_run.specs.RunShares.{of_desks}
use Rattle.gd_office_run.proofs.RunShares.{plus_assoc, sessions_are}
use Rattle.gd_office_run.proofs.phase.hold.Goals as goal

pub take_sessions-requires-clause-numbers : goal.take_sessions-requires-clause-numbers
take_sessions-requires-clause-numbers g c =
    ap length c.in_ok-numbers.ensures ∙ length-range_with_len c.args.first c.len.result ∙ (let l = c.len.ensures in let e = c.requires.each in let a = c.as_slice.ensures.len in search rules)

pub returns : goal.returns
returns g c slots of =
    let a = c.in_ok-take_sessions.ensures slots of in let b = c.in_ok-hold_desks.ensures slots a.0 in
    let given = c.args.given in let lists = lists_of given.lists.items in
    let long : c.len.result ≡ length (lists_of c.args.given.lists.items) = let mapped = length-map c.args.given.lists.items (λ (v : Vec Receipt). v.items) in let l = c.len.ensures in search rules in
    let numbers = c.in_ok-numbers.ensures ∙ ap (range_with_len c.args.first) long in (
      b.0,
      λ k below.
          let desks = of_desks 0 given.desks.items k in
          b.1 k below ∙ ap (λ (s : Share). plus s desks) (a.1 k below)
          ∙ ap (λ (s : Share). plus (plus (share_at c.args.holding.now k) s) desks)
          (sessions_are k c.as_slice.result.now c.args.phase.now.sessions.items _ (counts_of lists) lists c.in_ok-numbers.numbers.items _ c.as_slice.ensures.value c.requires.counted numbers)
          ∙ plus_assoc (share_at c.args.holding.now k) _ desks,
    )
