use Rattle.std.proofs.Common.{slice_set, false, ◌≡◌, ◌≢◌, ◌≤ℤ◌, ◌≤◌, ℤ, pos, ℕ, cond, ◌-ℤ◌, ◌+ℤ◌, to_z, of_z, to_z-of_z, length, get_or, drop, arith, sym, ◌∙◌, ap, subst, inl, inr, ◌∷◌, ◌+◌, add-one}
use Rattle.std.proofs.lemmas.Bool.{cases_eq}
use borrow.Author.Differences.{ints}
use Rattle.std.proofs.Math.Seq.{drop-cons}
use Rattle.std.specs.Int.{w64}
use Rattle.std.proofs.lemmas.List.{get_or_default, length-set}
use Rattle.gd_network.specs.Flow.{flow_at}
use Rattle.gd_question.specs.Nodes.{inside_part}
use Rattle.gd_network.specs.declared.walks.Step.{Step}
use Rattle.gd_network.specs.Steps.{head_of, moved, pushed}
use Rattle.gd_network.proofs.Pushes.{step_carries, step_rooms, step_nearer, step_leaves, follows_next, here, there, bounds_fit}
use Rattle.gd_network.proofs.Mending.{bounds_kept, less_amiss}
use Rattle.gd_network.proofs.walks.push.Goals as goal

none : Step
none = record { arc = 0; back = false }

pub loop-step-preserved : goal.loop-step-preserved
unfolding none
loop-step-preserved c =
    let k = c.loop-step.step-index in
    let in_walk = c.loop-step-test.true in
    let walk = c.args.walk.now in
    let n = c.args.network.now.arcs in
    let s = get_or walk k none in
    let d : ℤ = to_z w64 (of_z w64 c.args.amount) in
    let inv = c.loop-step.invariant in
    let r = inv.rooms k none (omega arith) in_walk in
    let within = c.requires.steps k none in_walk in
    let given : pos 0 ≤ℤ c.args.amount = c.requires.amount in
    let amount : pos 0 ≤ℤ d = omega (arith, ints) in
    let flows : length c.loop-step.flow ≡ length n = inv.size in
    let fit = bounds_fit _ n c.known.ensures.sound in
    let next_drop : drop k walk ≡ s ∷ drop (k + 1) walk = rw add-one (drop-cons walk k none in_walk) in
    rw c.push_step.ensures (record {
      size = length-set c.loop-step.flow s.arc _ ∙ inv.size;
      fits = λ i. step_leaves n c.loop-step.flow flows s d within amount inv.fits (fit.0 s.arc) (fit.1 s.arc) r i;
      rooms = λ j t low high. step_rooms n c.loop-step.flow flows s d within amount (get_or walk j t)
          (subst (λ (u : Step). s.arc ≡ u.arc → s.back ≢ u.back) (sym (get_or_default walk j t none high)) (c.requires.once k j none (omega arith) high))
          (inv.rooms j t (omega arith) high);
      done = ap (λ w. pushed c.loop-step.flow w d) (sym next_drop) ∙ inv.done;
      carries = λ a b f.
          let was = inv.carries a b f in
          let next = follows_next n walk k none in_walk was.0 b was.1 in (
            head_of n s,
            next.2,
            λ inside.
                let more = step_carries n c.loop-step.flow flows s d within amount inside in
                let so_far = was.2 inside in
                let same = ap (λ (v : ℕ). inside_part (inside v) d) next.1 in
                omega (arith, ints, more, so_far, same),
          );
      still = λ i h. there n c.loop-step.flow flows s d within amount i (λ e. h k none (omega arith) (sym e)) ∙ inv.still i (λ j t l. h j t (omega arith));
      single = λ j t low high others. elim (cases_eq j k) [
        | inl e ↦
            let same : get_or walk j t ≡ s = get_or_default walk j t none high ∙ ap (λ (m : ℕ). get_or walk m none) e in
            subst (λ (u : Step). flow_at (slice_set c.loop-step.flow s.arc (moved c.loop-step.flow s d)) u.arc ≡ moved c.args.flow.now u d) (sym same)
            (here n c.loop-step.flow flows s d within amount
            ∙ ap (λ (z : ℤ). cond s.back (z -ℤ d) (z +ℤ d)) (inv.still s.arc (λ m u l same_arc. others m u (omega arith) (omega arith) (same_arc ∙ ap (λ (v : Step). v.arc) (sym same)))))
        | inr e ↦
            there n c.loop-step.flow flows s d within amount (get_or walk j t).arc (λ same_arc. others k none in_walk (λ f. e (sym f)) (sym same_arc))
            ∙ inv.single j t (omega arith) high others
      ];
      nearer = λ i.
          let now = step_nearer n c.loop-step.flow flows s d within amount r i in
          let before = inv.nearer i in
          omega (arith, now, before);
    })

pub returns-clause-nearer : goal.returns-clause-nearer
returns-clause-nearer c = λ a h. c.loop-step.invariant.nearer a

pub returns-clause-within : goal.returns-clause-within
returns-clause-within c = bounds_kept c.args.network.now.arcs c.args.flow.now c.loop-step.flow (λ a h. c.loop-step.invariant.nearer a)

pub returns-clause-mends : goal.returns-clause-mends
returns-clause-mends c = λ k s h some mends.
    let n = c.args.network.now.arcs in
    let inv = c.loop-step.invariant in
    let ended : length c.args.walk.now ≤ c.loop-step.step-index = omega arith in
    less_amiss n c.args.flow.now c.loop-step.flow c.args.walk.now c.args.amount k s some h (c.requires.steps k s h) c.requires.rooms c.requires.once
    (λ j t g others. let m = inv.single j t (omega (arith, g, ended)) g others in simp (to_z-of_z, c.ranges.amount) at m)
    (λ a g. inv.nearer a) mends
