use Rattle.std.proofs.Common.{◌≡◌, ℕ, length, Some}
use Rattle.std.specs.Prelude.{slice_get}
use Rattle.gd_cost.specs.declared.lex.Lex.{Lex}
use Rattle.gd_cost.specs.declared.pair.Pair.{Pair}
use Rattle.gd_text.specs.Prices.{IsPrice}
use Rattle.gd_text.proofs.prices.PriceTable.prices.Given as goal

-- The prices of the elements so far.
abbrev pub invariant-elements : goal.invariant-elements
invariant-elements l = record {
  long : length l.prices.items ≡ l.element;
  each : (e : ℕ) (p : Pair (Lex 8) (Lex 8)) → slice_get l.prices.items e ≡ Some p → IsPrice l.self e p;
}
