use Rattle.std.proofs.Common.{◌≡◌, ◌+◌, ◌∙◌, Some, slice_get, rules, arith, IfSome, length, vec_len, sym, ap}
use Rattle.std.proofs.lemmas.Option.{slice_get-get_or}
use Rattle.gd_office_part.specs.Seen.{Slot}
use Rattle.gd_desk.proofs.Places.{each_more}
use Rattle.gd_desk.proofs.round.fn.round_of.scope.Goals as goal

pub loop-slot-preserved : goal.loop-slot-preserved
loop-slot-preserved g c =
    let was = c.loop-slot.invariant in
    let slot = c.slot-item.result in
    let at = c.loop-slot.slot-index in
    let there : slice_get c.captures.slots.now at ≡ Some slot = slice_get-get_or c.captures.slots.now at slot c.loop-slot-test.true ∙ ap (λ (s : Slot). Some s) (sym c.slot-item.is) in
    let number : c.slot-item.result.number ≡ c.loop-slot.slot-index + 1 = c.requires at slot there in
    let own : c.number.result ≡ 1 + c.loop-slot.slot-index = let n = c.number.ensures in omega (arith, n, number) in
    let child : IfSome c.ok.result (λ h. (h.promise.slot ≡ 1 + c.loop-slot.slot-index) × (h.promise.moment ≡ c.captures.moment.now)) = search rules in
    let len = was.len in
    let long : vec_len c.loop-slot.children ≡ length c.loop-slot.children.items = search rules in
    let place : 1 + c.loop-slot.slot-index ≡ 1 + length c.loop-slot.children.items = omega (arith, len, long) in
    record {
      len = search rules;
      started = rw c.in_ok-push.ensures.items (each_more _ 1 (1 + c.loop-slot.slot-index) c.loop-slot.children.items c.ok.result was.started place child);
    }
