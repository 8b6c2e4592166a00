use Rattle.gd_network.proofs.LinkLists.{noted}
use Rattle.gd_network.proofs.links.note.Goals as goal

pub returns-clause-noted : goal.returns-clause-noted
returns-clause-noted c = noted c.args.links.now.items c.args.node c.args.arc c.index_mut.result.now c.push.new.self c.requires c.index_mut.ensures.value c.in_ok-push.ensures.items
