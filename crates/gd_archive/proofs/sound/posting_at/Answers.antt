use Rattle.std.proofs.Common.{rules, ◌≡◌, Some, false}
use Rattle.sqlite_value.specs.Value.{owned}
use Rattle.gd_archive.specs.Soundness.{posting_of_body, is_of}
use Rattle.gd_archive.proofs.Kept.{none_of}
use Rattle.gd_archive.proofs.sound.posting_at.Goals as goal

pub returns-else-is_of-clause-damaged : goal.returns-else-is_of-clause-damaged
returns-else-is_of-clause-damaged c _ =
    let said : posting_of_body (owned c.args.body) ≡ Some c.in_ok-posting.posting = search rules in
    let other : is_of c.args.book c.args.cycle (owned c.args.round) c.in_ok-posting.posting ≡ false = search rules in
    none_of c.args.book c.args.cycle (owned c.args.round) (owned c.args.body) c.in_ok-posting.posting said other
