use Rattle.sqlite.specs.Held.{state}
use Rattle.gd_archive.proofs.Fetched.{is_kept}
use Rattle.gd_archive.proofs.laws.fetched_once_kept.Goals as goal

pub returns-in-Ok-fetch : goal.returns-in-Ok-fetch
returns-in-Ok-fetch g c clean =
    let first = state g.S.Store c.args.conn.now in
    let second = state g.S.Store c.keep.new.conn in
    let third = state g.S.Store c.fetch.new.conn in
    is_kept first second third c.args.posting.now c.in-Ok-fetch.found (c.in-Ok.ensures.kept (c.in-Ok-fetch.ensures.clean clean)) (c.in-Ok-fetch.ensures.fetched clean)
