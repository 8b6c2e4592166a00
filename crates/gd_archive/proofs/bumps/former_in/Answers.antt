use Rattle.std.proofs.Common.{rules, ◌≡◌, ◌+◌, ◌==◌, Some, true}
use Rattle.std.specs.Str.{bytes_eq}
use Rattle.sqlite.specs.Order.{column}
use Rattle.sqlite_value.specs.Value.{owned}
use Rattle.gd_archive.specs.Soundness.{posting_at}
use Rattle.gd_archive.proofs.Bumping.{former_is}
use Rattle.gd_archive.proofs.Kept.{at_row}
use Rattle.gd_archive.proofs.bumps.former_in.Goals as goal

pub returns-in-Ok : goal.returns-in-Ok
returns-in-Ok c =
    let row = c.args.row.now in
    let label = c.in_ok-label.label in
    let posting = c.args.posting.now in
    let round : owned c.in_ok-round.round ≡ column row 2 = search rules in
    let body : owned c.in_ok-body.body ≡ column row 3 = search rules in
    let found : posting_at label.book label.cycle (owned c.in_ok-round.round) (owned c.in_ok-body.body) ≡ Some c.in-Ok.former = search rules in
    let kept = at_row row label.book label.cycle _ _ (Some c.in-Ok.former) c.in_ok-label.ensures.book c.in_ok-label.ensures.cycle round body found in
    let same : bytes_eq label.book posting.book ≡ true = search rules in
    let next : (label.cycle + 1 == posting.cycle) ≡ true = search rules in
    former_is row label.book label.cycle posting (Some c.in-Ok.former) c.in_ok-label.ensures.book c.in_ok-label.ensures.cycle same next kept
