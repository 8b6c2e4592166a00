use Rattle.std.proofs.Common.{◌≡◌, ◌+◌, ◌∙◌, drop, ap, arith}
use Rattle.gd_text.specs.Building.{built_from}
use Rattle.gd_day.specs.Marks.{mark_step}
use Rattle.std.proofs.lemmas.Result.{err_from_is_err_and}
use Rattle.gd_text.proofs.Building.{goes_on, stops, is_done}
use Rattle.gd_day.proofs.group.check_prices.Goals as goal

pub returns-in_err-mark_price : goal.returns-in_err-mark_price
returns-in_err-mark_price c =
    let p = err_from_is_err_and c.from_residual.result c.from_residual.ensures.1 in
    let step = mark_step c.args.system.now c.args.first in
    rw (p.1, p.2) (stops step (c.args.first + c.rows.index) c.rows.index c.rows.last c.index-group-index.result c.args.group.now _ (built_from step c.args.first c.args.last.now c.args.group.now) c.rows-test.true c.index-group-index.is c.in_err-mark_price.ensures c.rows.invariant)

pub rows-preserved : goal.rows-preserved
rows-preserved c =
    let step = mark_step c.args.system.now c.args.first in
    let number : c.args.first + (c.rows.index + 1) ≡ c.args.first + c.rows.index + 1 = omega arith in
    ap (λ n. built_from step n c.mark_price.new.last (drop (c.rows.index + 1) c.args.group.now)) number
    ∙ goes_on step (c.args.first + c.rows.index) c.rows.index c.rows.last c.mark_price.new.last c.index-group-index.result c.args.group.now (built_from step c.args.first c.args.last.now c.args.group.now) c.rows-test.true c.index-group-index.is c.in_ok-mark_price.ensures c.rows.invariant

pub returns : goal.returns
returns c =
    let step = mark_step c.args.system.now c.args.first in
    is_done step (c.args.first + c.rows.index) c.rows.index c.rows.last c.args.group.now (built_from step c.args.first c.args.last.now c.args.group.now) c.rows-test.false c.rows.invariant
