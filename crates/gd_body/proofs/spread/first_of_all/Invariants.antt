use Rattle.std.proofs.Common.{◌≡◌, ◌++◌, drop, map}
use Rattle.gd_body.specs.Spread.{first_words}
use Rattle.gd_body.proofs.spread.first_of_all.Given as goal

-- The prices so far, and what is kept of those that are left.
abbrev pub invariant-prices : goal.invariant-prices
invariant-prices l = l.kept.items ++ map first_words (drop l.price-index l.prices) ≡ map first_words l.prices
