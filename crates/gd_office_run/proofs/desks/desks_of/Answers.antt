use Rattle.std.proofs.Common.{◌≡◌, ◌∷◌, ◌+◌, rules, length, vec_len, arith}
use Rattle.std.specs.Vec.Iter.{into_iter_items}
use Rattle.gd_desk.specs.Desks.{IsDesk}
use Rattle.gd_desk.proofs.Places.{each_more}
use Rattle.gd_office_run.proofs.desks.desks_of.Goals as goal

pub loop-desk-init : goal.loop-desk-init
loop-desk-init c =
    let none = c.in_ok-desks.ensures.len in
    let same : into_iter_items c.into_iter-desk-iterator.result ≡ c.args.given.items = search rules in
    let start : 1 + vec_len c.in_ok-desks.desks ≡ 1 = grind (arith, none) in
    record {
      each = λ days moment tried. (rw c.in_ok-desks.ensures.items tt, rw start (rw same tried));
      len = search rules;
    }

pub loop-desk-preserved : goal.loop-desk-preserved
loop-desk-preserved c =
    let was = c.loop-desk.invariant in
    let step = c.in-Some.ensures.steps in
    let items : into_iter_items c.loop-desk.desk-iterator ≡ c.in-Some.desk ∷ into_iter_items c.next.new.self = search rules in
    let pushed = c.in_ok-keep.ensures.items in
    let more : vec_len c.keep.new.desks ≡ vec_len c.loop-desk.desks + 1 = c.in_ok-keep.ensures.len in
    let next : 1 + vec_len c.keep.new.desks ≡ (1 + vec_len c.loop-desk.desks) + 1 = omega (arith, more) in
    let long : vec_len c.loop-desk.desks ≡ length c.loop-desk.desks.items = search rules in
    let place : 1 + vec_len c.loop-desk.desks ≡ 1 + length c.loop-desk.desks.items = omega (arith, long) in
    let kept = was.len in
    record {
      each = λ days moment tried.
          let all = was.each days moment tried in
          let left = rw items at all.1 in
          let desk = rw c.in_ok-desk.was at left.0 in (
            rw pushed (each_more (λ slot d. IsDesk days slot moment d) 1 (1 + vec_len c.loop-desk.desks) c.loop-desk.desks.items c.in_ok-desk.desk all.0 place desk),
            rw next left.1,
          );
      len = search rules;
    }
