use Rattle.gd_zone.proofs.Moments.{no_moment}
use Rattle.gd_zone.proofs.clock.moment_at.Goals as goal

pub returns-in-Err : goal.returns-in-Err
returns-in-Err c m found =
    let unique = rw (c.to_ambiguous_timestamp.ensures.datetime, c.to_ambiguous_timestamp.ensures.offsets) at c.unambiguous.ensures in
    no_moment c.args.civil _ c.unambiguous.result _ m unique c.in-Err.is found.0 found.1
