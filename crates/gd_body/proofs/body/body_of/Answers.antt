use Rattle.std.proofs.Common.{rules, ◌≡◌}
use Rattle.gd_body.specs.Rows.{body_text}
use Rattle.gd_body.proofs.Reading.{not_said}
use Rattle.gd_body.proofs.body.body_of.Goals as goal

pub returns-else-same : goal.returns-else-same
returns-else-same c =
    let written : c.deref.result.now ≡ body_text c.args.posting.now = search rules in
    not_said c.args.posting.now c.in_ok-back.back c.deref.result.now c.same_posting-same.result written c.in_ok-back.ensures c.same_posting-same.ensures c.if-same.false
