use Rattle.std.proofs.Common.{◌<◌, length, refl, arith}
use Rattle.std.proofs.lemmas.Bool.{false≢true}
use Rattle.gd_office_part.specs.Sending.{IsOfSlot}
use Rattle.gd_office_part.proofs.Placing.{all_at, all_more}
use Rattle.gd_office_part.proofs.threads.are_of_slots.Goals as goal

pub returns-then-not-is_of_slot : goal.returns-then-not-is_of_slot
returns-then-not-is_of_slot g c =
    let within : c.loop-at.at < length c.args.sessions.now = omega arith in
    let inside : c.loop-at.at < length c.args.rows.now = omega arith in (
      λ h. absurd (false≢true h),
      λ all. c.if-not-is_of_slot.ensures.1
          (all_at (IsOfSlot c.args.slots.now) c.args.sessions.now c.args.rows.now c.loop-at.at c.index-sessions-at.result c.index-rows-at.result
          within inside c.index-sessions-at.is c.index-rows-at.is all),
    )

pub loop-at-preserved : goal.loop-at-preserved
loop-at-preserved g c =
    let within : c.loop-at.at < length c.args.sessions.now = omega arith in
    let inside : c.loop-at.at < length c.args.rows.now = omega arith in
    all_more (IsOfSlot c.args.slots.now) c.args.sessions.now c.args.rows.now c.loop-at.at c.index-sessions-at.result c.index-rows-at.result
    within inside c.index-sessions-at.is c.index-rows-at.is c.loop-at.invariant (c.if-not-is_of_slot.ensures.0 refl)
