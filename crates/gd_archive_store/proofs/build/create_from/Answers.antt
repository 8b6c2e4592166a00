use Rattle.std.proofs.Common.{◌≡◌, suc, ◌+◌, ◌≤◌, ◌<◌, refl, arith, subst, rules, ◌∙◌}
use Rattle.sqlite.specs.Held.{state}
use Rattle.gd_archive_store.specs.Stages.{IsGrown}
use Rattle.gd_archive_store.proofs.Inside.{keeps_then, keeps_same}
use Rattle.gd_archive_store.proofs.Growing.{grown_none, grown_more}
use Rattle.gd_archive_store.proofs.build.create_from.Goals as goal

pub tables-init : goal.tables-init
tables-init g c =
    let old = state g.S.Store c.args.tx.now.conn.now in
    (refl, λ clean. clean, λ clean. keeps_same old, λ clean inside low has. (grown_none c.args.count old.now has, inside))

pub tables-preserved : goal.tables-preserved
tables-preserved g c =
    let was = c.tables.invariant in
    let one = c.in_ok-create.ensures in
    let old = state g.S.Store c.args.tx.now.conn.now in
    let mid = state g.S.Store c.tables.tx.conn.now in
    let new = state g.S.Store c.create.new.tx.conn.now in
    let low : c.tables.place < 3 = search rules in
    let up : c.args.count ≤ c.tables.place = search rules in
    let next : suc c.tables.place ≡ c.tables.place + 1 = omega arith in (
      one.same_reference ∙ was.0,
      λ clean. was.1 (one.clean clean),
      λ clean. keeps_then old mid new (was.2 (one.clean clean)) (one.kept clean),
      λ clean inside most has.
          let before = was.3 (one.clean clean) inside most has in
          let step = one.created clean before.1 low before.0.schema in
          (subst (λ n. IsGrown c.args.count n old.now new.now) next (grown_more c.args.count c.tables.place old.now mid.now new.now up before.0 step.0), step.1),
    )

pub returns-clause-grown : goal.returns-clause-grown
returns-clause-grown g c clean inside most has =
    let old = state g.S.Store c.args.tx.now.conn.now in
    let now = state g.S.Store c.tables.tx.conn.now in
    let it = c.tables.invariant.3 clean inside most has in
    let last : c.tables.place ≡ 3 = search rules in
    (subst (λ n. IsGrown c.args.count n old.now now.now) last it.0, it.1)
