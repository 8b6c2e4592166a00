use Rattle.std.proofs.Common.{rules, ◌≡◌, ℕ, ℤ, pos, neg_ℤ, ◌+◌, ◌^◌, get_or, set, arith, ap, ◌∙◌, subst, sym, w64, to_z, of_z, Bool, true, false, refl, inl, inr}
use Rattle.std.specs.Prelude.{if◌then◌else◌}
use Rattle.std.proofs.lemmas.Int.{to_z-of_z}
use Rattle.std.specs.Prelude.{IsTrue}
use mir.Val.{SFits}
use Rattle.gd_rules.specs.Question.{Question, element}
use Rattle.gd_question.specs.Nodes.{start, stop, anchor}
use Rattle.gd_schedule.specs.Surplus.{IsPassedOn}
use Rattle.gd_schedule.proofs.Sizes.{sized_fits}
use Rattle.gd_schedule.proofs.Surplus.{IsCarriedBy, added_as, entry_sized, passed_on}
use Rattle.gd_schedule.proofs.loads.pass_on.Goals as goal

pub add_at-requires-clause-room : goal.add_at-requires-clause-room
add_at-requires-clause-room c =
    entry_sized (c.args.element + 1 + 1) c.joint_of-joint.result.anchor (2 ^ 62) c.args.surplus.now (omega (arith, c.joint_of-joint.ensures.earlier)) (omega (arith, c.requires.before.small, c.known.ensures.few_lines))

-- what an element carries, as it leads in or out
carried_by : (q : Question) (e n : ℕ) (a z : ℤ) (inward : Bool) → n ≡ anchor e (element q e) → (IsTrue inward → (start q e ≡ e + 1) × (stop q e ≡ n)) → (inward ≡ false → (start q e ≡ n) × (stop q e ≡ e + 1))
    → z ≡ (if inward then a else neg_ℤ a) → IsCarriedBy q e a z
carried_by q e n a z true h i o w = let p : (start q e ≡ e + 1) × (stop q e ≡ n) = i refl in inl (p.0, p.1 ∙ h, w)
carried_by q e n a z false h i o w = let p : (start q e ≡ n) × (stop q e ≡ e + 1) = o refl in inr (p.0 ∙ h, p.1, w)

pub returns : goal.returns
returns c =
    let q = c.args.question.now.asked in
    let e : ℕ = c.args.element in
    let a : ℤ = get_or c.args.surplus.now (e + 1) (pos 0) in
    let j = c.joint_of-joint in
    let sized = entry_sized (e + 1 + 1) (e + 1) (2 ^ 62) c.args.surplus.now (omega arith) (omega (arith, c.requires.before.small, c.known.ensures.few_lines)) in
    let amount : to_z w64 (of_z w64 a) ≡ a = to_z-of_z w64 a (sized_fits (2 ^ 62) a (omega arith) sized) in
    let f : SFits w64 c.along.result = search rules in
    let z : to_z w64 (of_z w64 c.along.result) ≡ c.along.result = simp to_z-of_z refl in
    subst (λ z. IsPassedOn q c.args.schedule.now e c.add_at.new.table (set c.args.table.now e z)) (sym z)
    (passed_on q c.args.schedule.now e c.args.surplus.now c.add_at.new.table c.args.table.now c.along.result c.placed.ensures.brings c.requires.known c.add_at.ensures.sized
    (added_as c.args.surplus.now c.add_at.new.table j.result.anchor (anchor e (element q e)) _ a j.ensures.anchor amount c.add_at.ensures.added)
    (carried_by q e j.result.anchor a c.along.result j.result.inward j.ensures.anchor j.ensures.inward j.ensures.outward (c.along.ensures ∙ ap (λ y. if j.result.inward then y else neg_ℤ y) amount))
    c.requires.before)
