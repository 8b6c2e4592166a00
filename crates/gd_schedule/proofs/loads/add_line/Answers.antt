use Rattle.std.proofs.Common.{◌≡◌, ℕ, pos, neg_ℤ, ◌-ℤ◌, ◌+◌, ◌≤◌, ◌<◌, ◌^◌, length, refl, arith, ap, ◌∙◌, subst, sym, w64, to_z, of_z}
use Rattle.std.proofs.lemmas.Int.{to_z-of_z}
use borrow.Author.Differences.{ints}
use mir.Val.{SFits}
use Rattle.gd_rules.specs.Question.{Line, line}
use Rattle.gd_rules.specs.Schedule.{quantity}
use Rattle.gd_question.specs.Nodes.{end_node}
use Rattle.gd_schedule.specs.Surplus.{size}
use Rattle.gd_schedule.proofs.Sizes.{as_signed}
use Rattle.gd_schedule.proofs.Surplus.{IsAdded, added_as, entry_sized, size_added, line_adds}
use Rattle.gd_schedule.proofs.loads.add_line.Goals as goal

pub add_at-requires-clause-room : goal.add_at-requires-clause-room
add_at-requires-clause-room c =
    let q = c.args.question.now.asked in
    let known : c.origin.result.0 < length q.elements = subst (λ e. e < length q.elements) (sym c.origin.ensures) (c.known.ensures.lined c.args.line c.requires.known).origin_known in
    entry_sized (length q.elements + 1) (c.origin.result.0 + 1) (2 ^ 62) c.args.surplus.now (omega (arith, known)) (omega (arith, c.requires.before.small, c.requires.known, c.known.ensures.few_lines))

pub add_at-requires-2-clause-room : goal.add_at-requires-2-clause-room
add_at-requires-2-clause-room c =
    let q = c.args.question.now.asked in
    let origin : c.origin.result.0 < length q.elements = subst (λ e. e < length q.elements) (sym c.origin.ensures) (c.known.ensures.lined c.args.line c.requires.known).origin_known in
    let dest : c.dest.result.0 < length q.elements = subst (λ e. e < length q.elements) (sym c.dest.ensures) (c.known.ensures.lined c.args.line c.requires.known).dest_known in
    let one : IsAdded c.args.surplus.now c.add_at.new.table (c.origin.result.0 + 1) (pos c.get-quantity.result) = added_as c.args.surplus.now c.add_at.new.table (c.origin.result.0 + 1) (c.origin.result.0 + 1) _ (pos c.get-quantity.result) refl (as_signed c.get-quantity.result c.get-quantity.ensures.bound) c.add_at.ensures.added in
    let after : size (length q.elements + 1) c.add_at.new.table ≤ size (length q.elements + 1) c.args.surplus.now + c.get-quantity.result = size_added (length q.elements + 1) (c.origin.result.0 + 1) c.args.surplus.now c.add_at.new.table (pos c.get-quantity.result) (omega (arith, origin)) one in
    entry_sized (length q.elements + 1) (c.dest.result.0 + 1) (2 ^ 62) c.add_at.new.table (omega (arith, dest)) (omega (arith, after, c.get-quantity.ensures.bound, c.requires.before.small, c.requires.known, c.known.ensures.few_lines))

negative : (n : ℕ) → n ≤ 1000000000 → to_z w64 (of_z w64 (pos 0 -ℤ pos n)) ≡ neg_ℤ (pos n)
negative n h = let f : SFits w64 (pos 0 -ℤ pos n) = omega (arith, ints) in simp to_z-of_z (omega (arith, ints))

pub returns : goal.returns
returns c =
    let q = c.args.question.now.asked in
    let x = c.args.schedule.now in
    let k : ℕ = c.args.line in
    let l : Line = line q k in
    let m : c.get-quantity.result ≡ quantity x k = c.get-quantity.ensures.is ∙ c.quantity.ensures in
    let value : to_z w64 c.get-quantity.result ≡ pos (quantity x k) = as_signed c.get-quantity.result c.get-quantity.ensures.bound ∙ ap pos m in
    line_adds q x k c.args.surplus.now c.add_at.new.table c.add_at-2.new.table c.known.ensures.lined c.requires.known (subst (λ n. n ≤ 1000000000) m c.get-quantity.ensures.bound)
    c.add_at.ensures.sized
    (added_as c.args.surplus.now c.add_at.new.table (c.origin.result.0 + 1) (end_node l.origin) _ (pos (quantity x k)) (ap (λ n. n + 1) c.origin.ensures) value c.add_at.ensures.added)
    c.add_at-2.ensures.sized
    (added_as c.add_at.new.table c.add_at-2.new.table (c.dest.result.0 + 1) (end_node l.dest) _ (neg_ℤ (pos (quantity x k))) (ap (λ n. n + 1) c.dest.ensures)
    (ap (λ z. to_z w64 (of_z w64 (pos 0 -ℤ z))) value ∙ negative (quantity x k) (subst (λ n. n ≤ 1000000000) m c.get-quantity.ensures.bound)) c.add_at-2.ensures.added)
    c.requires.before
