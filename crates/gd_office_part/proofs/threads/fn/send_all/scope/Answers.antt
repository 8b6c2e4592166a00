use Rattle.std.proofs.Common.{◌∙◌, ◌<◌, ℕ, length, sym, ap, arith, rules}
use Rattle.std.proofs.lemmas.Result.{IfOk-weaker}
use Rattle.std.specs.Global.{Vec}
use Rattle.gd_office_part.specs.declared.call.Call.{Call}
use Rattle.gd_office_part.specs.declared.threads.SentOf.{SentOf}
use Rattle.gd_office_part.specs.Sending.{asked, IsAtSlot}
use Rattle.gd_office_part.proofs.Asking.{asked_more, asked_whole, promised_more}
use Rattle.gd_office_part.proofs.Placing.{all_at, slot_there, slot_numbered}
use Rattle.gd_office_part.proofs.threads.fn.send_all.scope.Goals as goal

pub bounds-slots-row : goal.bounds-slots-row
bounds-slots-row g c =
    let inside : c.loop-at.at < length c.captures.starts.now = omega arith in
    slot_there c.captures.slots.now c.index-starts-at.result.slot c.index-rows-at.result
    (all_at (λ s r. IsAtSlot c.captures.slots.now s.slot r) c.captures.starts.now c.captures.rows.now c.loop-at.at c.index-starts-at.result c.index-rows-at.result
    inside c.loop-at-test.true c.index-starts-at.is c.index-rows-at.is c.requires.slots)

pub offset_bounds-slots-row : goal.offset_bounds-slots-row
offset_bounds-slots-row g c =
    let inside : c.loop-at.at < length c.captures.starts.now = omega arith in
    let below : c.index-rows-at.result.slot < length c.captures.slots.now = slot_there c.captures.slots.now c.index-starts-at.result.slot c.index-rows-at.result
    (all_at (λ s r. IsAtSlot c.captures.slots.now s.slot r) c.captures.starts.now c.captures.rows.now c.loop-at.at c.index-starts-at.result c.index-rows-at.result
    inside c.loop-at-test.true c.index-starts-at.is c.index-rows-at.is c.requires.slots) in
    search rules

pub spawn_with-requires-clause-keeps : goal.spawn_with-requires-clause-keeps
spawn_with-requires-clause-keeps g c κs within r sent =
    let start = c.index-starts-at.result in
    let same = ap (asked c.index-slots-row.result.number start.party start.numbers) (c.as_slice-calls.ensures.value ∙ sym (ap (λ (v : Vec Call). v.items) c.of.ensures))
    ∙ ap (λ (n : ℕ). asked n start.party start.numbers c.of.result.value.items) (sym c.number.ensures) in
    IfOk-weaker r _ _ (λ it is. (is.0 ∙ same, is.1)) sent

pub loop-at-preserved : goal.loop-at-preserved
loop-at-preserved g c =
    let start = c.index-starts-at.result in
    let row = c.index-rows-at.result in
    let starts = c.captures.starts.now in
    let rows = c.captures.rows.now in
    let slots = c.captures.slots.now in
    let inside : c.loop-at.at < length starts = omega arith in
    let more = asked_more starts rows c.loop-at.at start row c.requires.starts c.loop-at-test.true c.index-starts-at.is c.index-rows-at.is in
    let placed = all_at (λ s r. IsAtSlot slots s.slot r) starts rows c.loop-at.at start row inside c.loop-at-test.true c.index-starts-at.is c.index-rows-at.is c.requires.slots in
    let slot = slot_numbered slots start.slot row c.index-slots-row.result c.index-slots-row.is placed in
    let same =
    ap (λ (p : SentOf g.row.J.Denot). asked p.slot p.party p.start p.calls.value.items) c.in-Ok.ensures.ok
    ∙ ap (λ (v : Vec Call). asked c.number.result start.party start.numbers v.items) c.of.ensures
    ∙ ap (λ (n : ℕ). asked n start.party start.numbers row.calls.items) (c.number.ensures ∙ slot) in
    rw c.in_ok-keep.ensures (promised_more _ _ _ _ _ _ c.loop-at.invariant same more)

pub join_all-requires : goal.join_all-requires
join_all-requires g c =
    c.loop-at.invariant ∙ asked_whole c.captures.starts.now c.captures.rows.now c.loop-at.at c.requires.starts c.loop-at-test.false
