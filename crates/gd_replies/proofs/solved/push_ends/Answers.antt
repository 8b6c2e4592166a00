use Rattle.std.proofs.Common.{drop}
use Rattle.gd_system.specs.Pipeline.{names_of}
use Rattle.gd_replies.proofs.Rest.{told_more, members_more, behind}
use Rattle.gd_replies.proofs.solved.push_ends.Goals as goal

pub ends-preserved : goal.ends-preserved
ends-preserved c =
    let names = names_of c.args.system.now in
    told_more c.ends.rows.items c.push_member.new.rows.items _ _ _ _ c.in_ok-push_member.ensures
    (members_more c.args.member (drop c.args.first names) c.args.inside.now c.ends.index c.name.result (behind c.args.first names c.ends.index c.name.result c.name.ensures) c.ends-test.true)
    c.ends.invariant
