use Rattle.std.proofs.Common.{ℕ, ◌≤◌, List, map, All, sym, subst}
use Rattle.std.specs.List.{IsDistinct}
use Rattle.gd_rules.specs.Lines.{Key, same_key}
use Rattle.gd_book_part.proofs.opening.Opening.new.Goals as goal

pub invariant_of-result : goal.invariant_of-result
invariant_of-result c =
    let entered = c.in-Ok.ensures.entered in
    record {
      holdings = c.known.ensures;
      calendar = c.known-2.ensures.calendar;
      distinct = subst (λ (es : List (Key × ℕ)). IsDistinct same_key (map (λ e. e.0) es)) (sym entered) c.in-Ok.ensures.distinct;
      small = subst (λ (es : List (Key × ℕ)). All (λ e. e.1 ≤ 1000000000) es) (sym entered) c.in-Ok.ensures.small;
    }
