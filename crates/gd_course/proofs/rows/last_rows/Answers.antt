use Rattle.std.proofs.Common.{◌≡◌, ◌+◌, ◌∙◌, length, get_or, ap, arith}
use Rattle.gd_machine.specs.History.{History}
use Rattle.gd_course.proofs.Last.{last_accepted}
use Rattle.gd_course.proofs.rows.last_rows.Goals as goal

pub pair_rows-requires : goal.pair_rows-requires
pair_rows-requires c =
    let h = c.args.book.now.history in
    let is = c.history-history.ensures.is in
    let bound = c.in-Some.ensures in
    let long : length c.history-history.result.now ≡ length h = ap (λ (l : History). length l) is in
    let last : c.in-Some.at + 1 ≡ length h = omega (arith, bound.0, bound.1, long) in
    last_accepted c.args.book.now.day h c.in-Some.at c.index-history-at.result c.history-history.ensures.legal last
    (c.index-history-at.is ∙ ap (λ (l : History). get_or l c.in-Some.at c.index-history-at.result) is)
