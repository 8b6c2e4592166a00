use Rattle.std.proofs.Common.{◌≡◌, ◌++◌, drop, string_bytes}
use Rattle.gd_system.specs.Pipeline.{names_of}
use Rattle.gd_body.specs.Rows.{lines_of, price_rows}
use Rattle.gd_body.proofs.taken.write_prices.Given as goal

-- The rows so far and those of the elements that are left are all rows.
abbrev pub invariant-elements : goal.invariant-elements
invariant-elements l =
    string_bytes l.text ++ lines_of (price_rows (drop l.element (names_of l.system)) (drop l.element l.prices))
    ≡ string_bytes l.fn.text ++ lines_of (price_rows (names_of l.system) l.prices)
