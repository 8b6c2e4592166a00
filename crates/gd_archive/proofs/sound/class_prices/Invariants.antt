use Rattle.std.proofs.Common.{◌≡◌, ◌++◌, drop, map}
use Rattle.gd_cost.specs.Made.{first_of}
use Rattle.gd_archive.proofs.sound.class_prices.Given as goal

-- The prices so far, and those that are left.
abbrev pub invariant-prices : goal.invariant-prices
invariant-prices l = l.words.items ++ map first_of (drop l.price-index l.price-items) ≡ map first_of l.prices
