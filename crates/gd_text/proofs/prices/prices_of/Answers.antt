use Rattle.std.proofs.Common.{◌≡◌, ◌+◌, ◌∙◌, ap, sym, inr}
use Rattle.gd_text.specs.Building.{built_from}
use Rattle.gd_text.specs.Prices.{Table, no_prices, price_step, prices_of}
use Rattle.std.proofs.lemmas.Result.{err_from_is_err_and}
use Rattle.gd_text.proofs.Building.{goes_on, stops, is_done}
use Rattle.gd_text.proofs.prices.prices_of.Goals as goal

pub returns-in_err-add_price : goal.returns-in_err-add_price
returns-in_err-add_price c =
    let p = err_from_is_err_and c.from_residual-in_err-add_price.result c.from_residual-in_err-add_price.ensures.1 in
    let step = price_step c.args.system.now in
    let begun : prices_of c.args.rows.now c.args.system.now ≡ built_from step 1 c.in_ok-table.table c.args.rows.now = ap (λ (t : Table). built_from step 1 t c.args.rows.now) (sym (c.in_ok-table.ensures ∙ ap no_prices c.element_count.ensures)) in
    rw (p.1, p.2) (inr (begun ∙ stops step (c.rows.index + 1) c.rows.index c.rows.table c.index-rows-index.result c.args.rows.now _ _ c.rows-test.true c.index-rows-index.is c.in_err-add_price.ensures.given c.rows.invariant.built))

pub rows-preserved : goal.rows-preserved
rows-preserved c =
    let step = price_step c.args.system.now in
    record {
      built = goes_on step (c.rows.index + 1) c.rows.index c.rows.table c.add_price.new.table c.index-rows-index.result c.args.rows.now _ c.rows-test.true c.index-rows-index.is c.in_ok-add_price.ensures.given c.rows.invariant.built;
      long = c.in_ok-add_price.ensures.sized ∙ c.rows.invariant.long;
    }

pub returns : goal.returns
returns c =
    let step = price_step c.args.system.now in
    let begun : prices_of c.args.rows.now c.args.system.now ≡ built_from step 1 c.in_ok-table.table c.args.rows.now = ap (λ (t : Table). built_from step 1 t c.args.rows.now) (sym (c.in_ok-table.ensures ∙ ap no_prices c.element_count.ensures)) in
    begun ∙ is_done step (c.rows.index + 1) c.rows.index c.rows.table c.args.rows.now _ c.rows-test.false c.rows.invariant.built
