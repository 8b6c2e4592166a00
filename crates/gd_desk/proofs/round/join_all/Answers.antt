use Rattle.std.proofs.Common.{◌≡◌, ◌∷◌, ◌+◌, rules, arith, IfOk, length, vec_len}
use Rattle.std.specs.Vec.Iter.{into_iter_items}
use Rattle.gd_desk.specs.Desks.{IsDesk}
use Rattle.gd_desk.proofs.Places.{each_more}
use Rattle.gd_desk.proofs.round.join_all.Goals as goal

pub loop-child-init : goal.loop-child-init
loop-child-init g c =
    let none = c.in_ok-desks.ensures.len in
    let same : into_iter_items c.into_iter-child-iterator.result ≡ c.args.children.items = search rules in
    let start : 1 + vec_len c.in_ok-desks.desks ≡ 1 = grind (arith, none) in
    record {
      left = search rules;
      promised = rw start (rw same c.requires);
      come = rw c.in_ok-desks.ensures.items tt;
    }

pub loop-child-preserved : goal.loop-child-preserved
loop-child-preserved g c =
    let was = c.loop-child.invariant in
    let step = c.in-Some.ensures.steps in
    let pushed = c.in_ok-push.ensures.len in
    let items : into_iter_items c.loop-child.child-iterator ≡ c.in-Some.child ∷ into_iter_items c.next.new.self = search rules in
    let all = rw items at was.promised in
    let more : vec_len c.push.new.self ≡ vec_len c.loop-child.desks + 1 = search rules in
    let next : 1 + vec_len c.push.new.self ≡ (1 + vec_len c.loop-child.desks) + 1 = omega (arith, more) in
    let long : vec_len c.loop-child.desks ≡ length c.loop-child.desks.items = search rules in
    let place : 1 + vec_len c.loop-child.desks ≡ 1 + length c.loop-child.desks.items = omega (arith, long) in
    let desk = c.joined.ensures (1 + vec_len c.loop-child.desks) all.0 in
    record {
      left = search rules;
      promised = rw next all.1;
      come = rw c.in_ok-push.ensures.items (each_more (λ slot d. IfOk d (IsDesk g.J.Days.days slot c.args.moment.now)) 1 (1 + vec_len c.loop-child.desks) c.loop-child.desks.items c.joined.result was.come place desk);
    }
