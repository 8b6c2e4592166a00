use Rattle.std.proofs.Common.{List, length, min, string_bytes, ap, ap₂, ◌∙◌}
use Rattle.gd_cost.specs.declared.lex.Lex.{Lex}
use Rattle.gd_cost.specs.declared.pair.Pair.{Pair}
use Rattle.gd_system.specs.Pipeline.{names_of}
use Rattle.gd_body.proofs.RowLists.{written_more, written_all, prices_more, prices_done}
use Rattle.gd_body.proofs.taken.write_prices.Goals as goal

pub elements-preserved : goal.elements-preserved
elements-preserved c =
    written_more (string_bytes c.elements.text) (string_bytes c.write_price.new.text) _ _ _ _ c.in_ok-write_price.ensures
    (prices_more (names_of c.args.system.now) c.args.prices.now c.elements.element c.name-name.result c.price.result c.name-name.ensures c.price.ensures)
    c.elements.invariant

pub returns : goal.returns
returns c =
    written_all (string_bytes c.elements.text) _ _
    (prices_done c.args.system.now c.args.prices.now c.min-count.result c.elements.element c.known.ensures.known.named
    (c.min-count.ensures ∙ ap₂ min c.element_count.ensures (ap (λ (l : List (Pair (Lex 8) (Lex 8))). length l) c.values.ensures)) c.elements-test.false)
    c.elements.invariant
