use Rattle.std.proofs.Common.{◌≡◌, cond, length, rules, Some, sym, ap, subst, ◌∙◌}
use Rattle.std.specs.Map.{lookup}
use Rattle.gd_table.specs.Table.{Table, get}
use Rattle.gd_table.specs.Inside.{IsIndexed}
use Rattle.gd_table.proofs.Indexed.{indexed_last, lookup_last}
use Rattle.gd_table.proofs.table.Table.push.Goals as goal

pub invariant_of-self : goal.invariant_of-self
invariant_of-self g c =
    let eq = g.K.PartialEq.eq in
    let es = c.self.inside.entries.items in
    let pushed = rw c.unwrap-2.ensures at c.push.ensures.items in
    let updated = (rw c.unwrap.ensures at c.insert-entered.ensures.updates).0 in
    let new = ap (λ (t : Table _ _). get eq t c.args.key) c.self.view_is ∙ c.requires.new in
    let last : c.len-at.result ≡ length es = search rules in
    subst (λ l. IsIndexed eq l c.insert-entered.new.self) (sym pushed)
    (indexed_last g.met.K.Eq.laws es c.self.inside.positions c.insert-entered.new.self c.args.key c.args.value c.len-at.result c.self.invariant new last updated)

pub returns-clause-unique : goal.returns-clause-unique
returns-clause-unique g c = (invariant_of-self g c).distinct

pub returns-clause-values : goal.returns-clause-values
returns-clause-values g c =
    let eq = g.K.PartialEq.eq in
    let es = c.self.inside.entries.items in
    let new = ap (λ (t : Table _ _). get eq t c.args.key) c.self.view_is ∙ c.requires.new in
    λ other.
    ap (lookup (eq other)) (rw c.unwrap-2.ensures at c.push.ensures.items) ∙ lookup_last g.met.K.Eq.laws es c.args.key c.args.value new other
    ∙ ap (λ (t : Table _ _). cond (eq c.args.key other) (Some c.args.value) (get eq t other)) c.self.view_is
