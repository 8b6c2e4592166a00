use Rattle.std.specs.Prelude.{OnOk}
use Rattle.std.proofs.Common.{◌≡◌, ◌==◌, ℕ, ◌∙◌, true, List, [], ◌∷◌, length, refl, sym, arith, inr, Result, Ok, Err}
use Rattle.std.proofs.lemmas.Bool.{eqb-true}
use Rattle.gd_system.specs.Pipeline.{Pipeline}
use Rattle.gd_text_part.specs.declared.fault.TextFault.{TextFault}
use Rattle.gd_text_part.specs.declared.row.Row.{Row}
use Rattle.gd_text.specs.Building.{Builds, built_from}
use Rattle.gd_day.specs.Groups.{checked_group, Passes}
use Rattle.gd_day.proofs.CallGroups.{passes}
use Rattle.gd_day.proofs.group.check_call.Goals as goal

-- of no rows nothing is wrong
none : (p : Pipeline) (n : ℕ) (group : List Row) → (length group == 0) ≡ true → checked_group p n group ≡ Ok tt
unfolding built_from
none p n [] h = refl
none p n (r ∷ group) h = absurd (omega (arith, eqb-true (length (r ∷ group)) 0 h))

same : (told made : Result (Unit {0}) TextFault) → told ≡ made → Builds {X = Unit {0}} {Y = Unit {0}} (λ done. done) told made
same (Ok done) made h = sym h
same (Err f) made h = inr (sym h)

passed : (p : Pipeline) (n : ℕ) (group : List Row) (told : Result (Unit {0}) TextFault) → told ≡ checked_group p n group → OnOk told (Passes p group)
passed p n group (Ok done) h = passes p n group (sym h)
passed p n group (Err f) h = tt

pub returns-then-is_empty-clause-checked : goal.returns-then-is_empty-clause-checked
returns-then-is_empty-clause-checked c = none c.args.system.now c.args.first c.args.group.now (sym c.is_empty.ensures ∙ c.if-is_empty.true)

pub returns-then-is_empty-clause-passes : goal.returns-then-is_empty-clause-passes
returns-then-is_empty-clause-passes c = passes c.args.system.now c.args.first c.args.group.now (none c.args.system.now c.args.first c.args.group.now (sym c.is_empty.ensures ∙ c.if-is_empty.true))

pub returns-clause-checked : goal.returns-clause-checked
returns-clause-checked c = same c.check_group.result _ c.check_group.ensures.checked

pub returns-clause-passes : goal.returns-clause-passes
returns-clause-passes c = passed c.args.system.now c.args.first c.args.group.now c.check_group.result c.check_group.ensures.checked
