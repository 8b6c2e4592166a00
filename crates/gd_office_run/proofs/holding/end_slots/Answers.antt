use Rattle.std.proofs.Common.{◌≡◌, ◌∙◌, ◌+◌, ◌<◌, ℕ, List, length, get_or, slice_get, Some, rules, arith, subst, sym, ap}
use Rattle.std.proofs.lemmas.Option.{slice_get-get_or}
use Rattle.gd_office_part.specs.Seen.{Slot}
use Rattle.gd_office_run.specs.Shares.{share_at, Share, EndsBy}
use Rattle.gd_office_run.proofs.Shares.{end_more}
use Rattle.gd_office_run.proofs.holding.end_slots.Goals as goal

there : (slots : List Slot) (at : ℕ) (slot : Slot) → at < length slots → slot ≡ get_or slots at slot → slice_get slots at ≡ Some slot
there slots at slot within is = slice_get-get_or slots at slot within ∙ ap (λ (s : Slot). Some s) (sym is)

pub end_at-requires : goal.end_at-requires
end_at-requires g c = record { there = (length c.args.slots.now, c.loop-at.invariant.of, search rules) }

pub loop-at-preserved : goal.loop-at-preserved
loop-at-preserved g c =
    let was = c.loop-at.invariant in let at = c.loop-at.at in
    let slot = c.index-slots-at.result in
    let number : slot.number ≡ at + 1 = c.requires.numbered at slot (there c.args.slots.now at slot c.loop-at-test.true c.index-slots-at.is) in
    let own = subst (λ (n : ℕ). EndsBy g.J.Days.days n (share_at c.loop-at.holding at) c.in_ok-end.end) number c.in_ok-end.ensures.ends in
    let here = subst (λ (s : Share). EndsBy g.J.Days.days (at + 1) s c.in_ok-end.end) (was.left at (omega arith)) own in
    let len = was.len in
    record {
      of = c.end_at.ensures.same (length c.args.slots.now) was.of;
      len = search rules;
      left = λ k above. c.end_at.ensures.others k (omega (arith, above)) ∙ was.left k (omega (arith, above));
      ends = rw c.in_ok-push.ensures.items (end_more g.J.Days.days (share_at c.args.holding) 0 at c.loop-at.ends.items c.in_ok-end.end was.ends (omega (arith, len)) here);
    }
