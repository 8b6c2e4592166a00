use Rattle.std.proofs.Common.{◌≡◌, ◌+◌, ◌∙◌, drop, ap, sym, arith}
use Rattle.gd_text.specs.Building.{built_from}
use Rattle.gd_day.specs.Marks.{inside_step}
use Rattle.std.proofs.lemmas.Result.{err_from_is_err_and}
use Rattle.gd_text.proofs.Building.{goes_on, stops, is_done}
use Rattle.gd_day.proofs.Insides.{members_checked}
use Rattle.gd_day.proofs.group.check_members.Goals as goal

pub returns-in_err-check_member : goal.returns-in_err-check_member
returns-in_err-check_member c =
    let p = err_from_is_err_and c.from_residual.result c.from_residual.ensures.1 in
    let step = inside_step c.args.system.now in
    rw (p.1, p.2) (sym (stops step (c.args.first + c.rows.index) c.rows.index tt c.index-group-index.result c.args.group.now _ (built_from step c.args.first tt c.args.group.now) c.rows-test.true c.index-group-index.is (sym c.in_err-check_member.ensures) c.rows.invariant)
    ∙ members_checked c.args.system.now c.args.first c.args.group.now)

pub rows-preserved : goal.rows-preserved
rows-preserved c =
    let step = inside_step c.args.system.now in
    let number : c.args.first + (c.rows.index + 1) ≡ c.args.first + c.rows.index + 1 = omega arith in
    ap (λ n. built_from step n tt (drop (c.rows.index + 1) c.args.group.now)) number
    ∙ goes_on step (c.args.first + c.rows.index) c.rows.index tt tt c.index-group-index.result c.args.group.now (built_from step c.args.first tt c.args.group.now) c.rows-test.true c.index-group-index.is (sym c.in_ok-check_member.ensures) c.rows.invariant

pub returns : goal.returns
returns c =
    let step = inside_step c.args.system.now in
    sym (is_done step (c.args.first + c.rows.index) c.rows.index tt c.args.group.now (built_from step c.args.first tt c.args.group.now) c.rows-test.false c.rows.invariant) ∙ members_checked c.args.system.now c.args.first c.args.group.now
