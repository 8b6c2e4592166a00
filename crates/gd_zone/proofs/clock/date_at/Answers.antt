use Rattle.gd_zone.proofs.Moments.{date_before, date_after}
use Rattle.gd_zone.proofs.clock.date_at.Goals as goal

pub returns-in-Before : goal.returns-in-Before
returns-in-Before c = rw (c.ok.ensures.value, c.in-Before.is) (date_before c.args.date c.yesterday.result c.yesterday.ensures.succeeds c.yesterday.ensures.value)

pub returns-in-After : goal.returns-in-After
returns-in-After c = rw (c.ok-in-After.ensures.value, c.in-After.is) (date_after c.args.date c.tomorrow.result c.tomorrow.ensures.succeeds c.tomorrow.ensures.value)
