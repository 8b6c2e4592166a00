-- Each accepted nomination stands in the intake of one cycle from 1 to 5 alone.
use Rattle.std.proofs.Common.{◌≡◌, ℕ, suc, ◌+◌, ◌≤◌, Bool, true, false, List, [], ◌∷◌, ◌++◌, length, take, All, Some, refl, sym, subst, ap, ◌∙◌, arith, cond}
use Rattle.std.specs.Prelude.{◌==◌}
use Rattle.std.specs.List.{cons_option}
use Rattle.std.proofs.lemmas.Bool.{eqb-true, eq-eqb}
use Rattle.std.proofs.lemmas.List.{length-append, append-nil}
use Rattle.std.proofs.lemmas.List.Elements.{filter-append}
use Rattle.gd_rules.specs.Lines.{Nomination, intake}
use Rattle.gd_machine.specs.declared.event.Event.{Event}
use Rattle.gd_machine.specs.declared.reply.Reply.{Reply}
use Rattle.gd_machine.specs.Day.{Day}
use Rattle.gd_machine.specs.History.{History}
use Rattle.gd_machine.specs.Asking.{nomination_of, nominations}
use Rattle.gd_machine.specs.Machine.{IsLegal}
use Rattle.gd_machine.specs.Headline.{StandsInOne, IsAt, taken_in}
use Rattle.gd_machine.proofs.Nominations.{nominations_more, prefix_in_day}
use Rattle.gd_machine.proofs.Times.{taken}
use Rattle.gd_lines.proofs.Lockstep.{last_of}

module _ (day : Day) (h : History) (k : ℕ) (p : Event × Reply) (n : Nomination) (at : IsAt h k p) (is : nomination_of day p ≡ Some n) where
  more : nominations day (take (suc k) h) ≡ nominations day (take k h) ++ n ∷ []
  more =
      ap (nominations day) (taken h k p at) ∙ nominations_more day (take k h) p
      ∙ ap (λ o. nominations day (take k h) ++ cons_option o []) is

  intake_more : (cycle : ℕ) → intake (nominations day (take (suc k) h)) cycle ≡ intake (nominations day (take k h)) cycle ++ cond (n.cycle == cycle) (n ∷ []) []
  intake_more cycle = ap (λ ns. intake ns cycle) more ∙ filter-append (λ m. m.cycle == cycle) (nominations day (take k h)) (n ∷ [])

  own : taken_in day (take (suc k) h) n.cycle ≡ taken_in day (take k h) n.cycle + 1
  own =
      ap length (intake_more n.cycle ∙ ap (λ b. intake (nominations day (take k h)) n.cycle ++ cond b (n ∷ []) []) (eq-eqb n.cycle n.cycle refl))
      ∙ length-append (intake (nominations day (take k h)) n.cycle) (n ∷ [])

  others : (other : ℕ) → (other ≡ n.cycle → ⊥) → intake (nominations day (take (suc k) h)) other ≡ intake (nominations day (take k h)) other
  others other apart = go (n.cycle == other) refl
    where
      go : (b : Bool) → (n.cycle == other) ≡ b → intake (nominations day (take (suc k) h)) other ≡ intake (nominations day (take k h)) other
      go true e = absurd (apart (sym (eqb-true n.cycle other e)))
      go false e =
          intake_more other ∙ ap (λ b. intake (nominations day (take k h)) other ++ cond b (n ∷ []) []) e ∙ append-nil (intake (nominations day (take k h)) other)

abbrev InDay : Nomination → Type 0
InDay m = (1 ≤ m.cycle) × (m.cycle ≤ 5)

pub stands_in_one : (day : Day) (h : History) → IsLegal day h → StandsInOne day h
stands_in_one day h legal k p n at is =
    let whole = prefix_in_day day h legal (suc k) in
    let one = last_in (nominations day (take k h)) (subst (All InDay) (more day h k p n at is) whole) in
    let next : suc k ≡ k + 1 = omega arith in (
      one.0,
      one.1,
      ap (λ m. taken_in day (take m h) n.cycle) (sym next) ∙ own day h k p n at is,
      λ other apart. ap (λ m. intake (nominations day (take m h)) other) (sym next) ∙ others day h k p n at is other apart,
    )
  where
    last_in : (ns : List Nomination) → All InDay (ns ++ n ∷ []) → InDay n
    last_in ns all = subst InDay (last_of ns n n (length ns) refl) (all (length ns) n (let size = length-append ns (n ∷ []) in omega (arith, size)))
