use Rattle.gd_text_part.specs.declared.row.Member.TheVariants as member
use Rattle.gd_replies.proofs.Rest.{told_more, members_more}
use Rattle.gd_replies.proofs.solved.push_places.Goals as goal

pub places-preserved : goal.places-preserved
places-preserved c = told_more c.places.rows.items c.push_member.new.rows.items _ _ _ _ c.in_ok-push_member.ensures (members_more member.Place c.args.system.now.places c.args.inside.now c.places.index c.place_name.result c.place_name.ensures c.places-test.true) c.places.invariant
