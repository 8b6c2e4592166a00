use Rattle.std.proofs.Common.{ℕ, ◌+◌, ◌<◌, arith}
use Rattle.std.specs.Prelude.{pos, ◌-ℤ◌, ◌<ℤ◌}
use borrow.Author.Differences.{ints}
use Rattle.gd_rules.specs.Cut.{Side, must_leave, may_enter, can_leave}
use Rattle.gd_rules.proofs.Cuts as Cuts
use Rattle.gd_certificate.specs.Cutting.{side_of}
use Rattle.gd_certificate.proofs.cut.check_cut.Goals as goal

above : (m a b : ℕ) → a + b < m → pos 0 <ℤ ((pos m -ℤ pos a) -ℤ pos b)
above m a b h = omega (arith, ints)

pub returns-clause-none : goal.returns-clause-none
returns-clause-none c = λ schedule a.
    let q = c.args.question.now.asked in
    let side : Side = side_of c.args.question.now.pipeline c.args.cut.now in
    let must = c.must_leave-owed.ensures.is in
    let enter = c.may_enter.ensures.is in
    let can = c.can_leave.ensures.is in
    let more = c.if-owed-ways.false in
    Cuts.cut_forbids q side schedule c.known.ensures.lined (above (must_leave q side) (may_enter q side) (can_leave q side) (omega (arith, must, enter, can, more))) a
