use Rattle.std.proofs.Common.{Option, ℕ, Bor, sym, ap, subst, ◌∙◌}
use Rattle.std.specs.Prelude.{is_some, slice_set}
use Rattle.std.specs.Option.{option_copied}
use Rattle.std.specs.Map.{lookup, set_value}
use Rattle.gd_table.specs.Table.{Table}
use Rattle.gd_table.specs.Inside.{IsIndexed}
use Rattle.gd_table.proofs.Places.{is_some-position, set_at}
use Rattle.gd_table.proofs.Indexed.{some_from, indexed_set, lookup_set}
use Rattle.gd_table.proofs.table.Table.set.Goals as goal

pub unwrap-at-requires : goal.unwrap-at-requires
unwrap-at-requires g c =
    let test = g.K.PartialEq.eq c.args.key in
    some_from _ _
    (ap is_some (c.get.ensures.value ∙ c.self.invariant.placed c.args.key) ∙ is_some-position test c.self.inside.entries.items ∙ ap (λ (t : Table _ _). is_some (lookup test t.entries)) c.self.view_is)
    c.requires

pub returns-clause-changed : goal.returns-clause-changed
returns-clause-changed g c =
    let test = g.K.PartialEq.eq c.args.key in
    let es = c.self.inside.entries.items in
    let at = sym (c.self.invariant.placed c.args.key) ∙ sym c.get.ensures.value ∙ ap (λ (r : Option (Bor ℕ)). option_copied r) c.unwrap-at.ensures in
    ap (λ p. slice_set es c.unwrap-at.result.now (p.0, c.args.value)) c.index.ensures ∙ set_at test c.args.value c.index.result.now es c.unwrap-at.result.now at
    ∙ ap (λ (t : Table _ _). set_value test t.entries c.args.value) c.self.view_is

pub invariant_of-self : goal.invariant_of-self
invariant_of-self g c =
    let eq = g.K.PartialEq.eq in
    let es = c.self.inside.entries.items in
    let changed = returns-clause-changed g c ∙ sym (ap (λ (t : Table _ _). set_value (eq c.args.key) t.entries c.args.value) c.self.view_is) in
    subst (λ l. IsIndexed eq l c.self.inside.positions) (sym changed) (indexed_set (eq c.args.key) es c.self.inside.positions c.args.value c.self.invariant)

pub returns-clause-unique : goal.returns-clause-unique
returns-clause-unique g c = (invariant_of-self g c).distinct

pub returns-clause-values : goal.returns-clause-values
returns-clause-values g c =
    let eq = g.K.PartialEq.eq in
    λ other. ap (lookup (eq other)) (returns-clause-changed g c) ∙ lookup_set g.met.K.Eq.laws c.args.self.now.entries c.args.key c.args.value c.requires other
